pub mod Figures
pub mod Whole
