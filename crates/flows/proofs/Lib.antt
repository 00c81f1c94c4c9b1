pub mod FlowCallLaws
pub mod PublicListing
