pub mod Places
pub mod Numbers
