pub mod Meaning
pub mod Image
pub mod Record
pub mod Calls
pub mod Together
pub mod Raised
