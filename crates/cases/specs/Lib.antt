pub mod Sheets
pub mod CaseTable
