pub mod Covered
pub mod InNumbers
pub mod AsBefore
pub mod OneEach
pub mod Instances
pub mod Quantified
pub mod Headlines
