pub mod Effects
pub mod Causing
pub mod Caused
