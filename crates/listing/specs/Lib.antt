pub mod Calls
pub mod Seeks
pub mod Lists
pub mod Inner
