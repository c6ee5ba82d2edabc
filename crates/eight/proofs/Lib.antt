pub mod Eight
pub mod Filled
