pub mod Evaluation
pub mod Flows
pub mod Reports
pub mod Lists
pub mod Inner
