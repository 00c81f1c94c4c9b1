pub mod Lent
pub mod Faults
pub mod Assembled
pub mod Inner
