pub mod Behind
pub mod Dated
