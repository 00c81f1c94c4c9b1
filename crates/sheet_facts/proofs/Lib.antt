pub mod Maxes
