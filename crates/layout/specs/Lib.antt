pub mod Header
pub mod Groups
pub mod Tables
pub mod Sized
