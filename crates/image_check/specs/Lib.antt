pub mod Among
pub mod Versions
