pub mod Digits
pub mod Reading
pub mod Signed
pub mod Steps
pub mod Writing
