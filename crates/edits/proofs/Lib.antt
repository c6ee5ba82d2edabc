pub mod Kind8
pub mod Kind9
pub mod Kind10
