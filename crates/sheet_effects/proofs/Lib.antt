pub mod Stamps
pub mod Scan
