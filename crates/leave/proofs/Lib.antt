pub mod Kind3
