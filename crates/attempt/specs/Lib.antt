pub mod Attempts
pub mod Inner
