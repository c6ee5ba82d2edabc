pub mod Second
pub mod Records
