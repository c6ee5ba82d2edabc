pub mod Sets
pub mod Served
