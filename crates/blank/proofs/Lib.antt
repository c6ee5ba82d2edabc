pub mod Blank
pub mod Empty
