pub mod Number
pub mod Answers
pub mod Inner
