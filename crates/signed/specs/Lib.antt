pub mod Words
pub mod Compare
pub mod Operators
pub mod Inner
