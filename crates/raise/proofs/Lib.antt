pub mod Groups
pub mod Expenses
pub mod Raised
