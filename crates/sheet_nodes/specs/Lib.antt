pub mod Scopes
pub mod Arrays
pub mod Steps
