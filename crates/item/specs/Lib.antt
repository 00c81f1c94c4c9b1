pub mod Sorts
pub mod Units
pub mod Items
pub mod Inner
