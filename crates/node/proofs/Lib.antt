pub mod Judged
pub mod Truth
pub mod Lawful
pub mod FactTypeLaws
pub mod Few
pub mod OneKind
pub mod OverLists
