pub mod Backs
pub mod Products
pub mod Units
