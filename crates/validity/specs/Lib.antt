pub mod Validity
