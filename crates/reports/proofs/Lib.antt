pub mod ReportLaws
pub mod SmallReports
