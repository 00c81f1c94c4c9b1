-- The laws of signed words that other crates' proofs cite.
pub mod Parts
pub mod Order
pub mod Scaled
pub mod Bounds
pub mod Fit
pub mod Numbers
pub mod Pairs
