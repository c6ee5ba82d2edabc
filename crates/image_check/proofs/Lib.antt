pub mod Rows
pub mod Answered
