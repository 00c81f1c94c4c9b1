pub mod Writing
pub mod Bounds
pub mod Opening
pub mod Cursors
pub mod Filling
pub mod Whole
