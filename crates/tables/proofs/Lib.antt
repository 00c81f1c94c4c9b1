pub mod Bools
pub mod Scans
pub mod Scanned
pub mod Grown
pub mod Entries
pub mod Lists
pub mod Ints
pub mod Elements
