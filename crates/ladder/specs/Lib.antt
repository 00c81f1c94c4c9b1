pub mod Ladder
pub mod Inner
