pub mod Module
pub mod Shown
pub mod Tied
pub mod Stored
pub mod Stranger
