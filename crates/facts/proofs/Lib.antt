pub mod Refused
pub mod Filled
pub mod UsedLaws
pub mod FaultLaws
pub mod PlainLaws
pub mod HeldLaws
