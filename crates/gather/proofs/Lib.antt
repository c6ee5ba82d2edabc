pub mod Owed
pub mod Added
pub mod Turns
pub mod Summed
pub mod Columns
