pub mod Kinds
pub mod FactTypes
pub mod FactValues
pub mod Rows
pub mod Judged
