pub mod Mask
pub mod States
pub mod Outcomes
pub mod Changes
pub mod Ready
pub mod Inner
