pub mod Flows
pub mod Routes
