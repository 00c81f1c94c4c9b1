pub mod Limits
pub mod Groups
pub mod Owners
