pub mod Roots
pub mod Cites
pub mod RuleScan
pub mod OperationScan
pub mod StepScan
