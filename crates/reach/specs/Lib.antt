pub mod Moves
pub mod Reached
pub mod Inner
