pub mod KindLaws
pub mod SecondsLaws
pub mod SweepLaws
pub mod TakenLaws
