pub mod AboveZero
pub mod PassedOn
