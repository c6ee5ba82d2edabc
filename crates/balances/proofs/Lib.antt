pub mod Groups
pub mod Answers
