pub mod Made
pub mod Answered
pub mod Told
