pub mod Kids
pub mod Scopes
pub mod Tops
pub mod Scan
pub mod Turns
pub mod Leaves
