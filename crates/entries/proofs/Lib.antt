pub mod Kind4
pub mod Kind5
pub mod Kind6
pub mod Kind7
