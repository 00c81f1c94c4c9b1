pub mod Causes
pub mod Inner
