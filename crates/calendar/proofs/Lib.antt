pub mod Tests
pub mod Months
pub mod Days
pub mod Entries
