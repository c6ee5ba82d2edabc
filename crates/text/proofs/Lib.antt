pub mod Decimal
pub mod Encoded
