pub mod Above
pub mod Counts
pub mod Bounds
