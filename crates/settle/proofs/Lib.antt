pub mod Signed
pub mod Turns
