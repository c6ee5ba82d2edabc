pub mod Kind1
pub mod Kind2
