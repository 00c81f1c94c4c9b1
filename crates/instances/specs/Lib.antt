pub mod Records
pub mod Named
pub mod Inner
