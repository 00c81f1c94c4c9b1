pub mod Scan
pub mod Table
pub mod Lists
pub mod Inner
