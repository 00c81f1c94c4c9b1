pub mod Paths
pub mod Walkers
pub mod Follows
pub mod Inner
