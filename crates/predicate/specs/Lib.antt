pub mod Values
pub mod Units
pub mod Base
pub mod Verdicts
pub mod Inner
