pub mod Masks
pub mod Counts
pub mod Rounds
pub mod Flags
pub mod Scanning
pub mod Exploring
pub mod Steps
