pub mod ClimbLaws
pub mod Small
pub mod LentLaws
