pub mod Added
pub mod Turns
pub mod Dated
pub mod Fewer
pub mod All
pub mod Laws
