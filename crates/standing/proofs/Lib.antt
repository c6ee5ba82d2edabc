pub mod Concerned
pub mod Walk
