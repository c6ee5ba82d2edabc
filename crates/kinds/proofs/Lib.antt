pub mod Seen
pub mod Shared
