pub mod Ordered
pub mod Table
