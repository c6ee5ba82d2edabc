pub mod Masks
pub mod High
