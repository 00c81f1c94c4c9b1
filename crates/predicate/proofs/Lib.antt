pub mod ValueLaws
pub mod BaseLaws
pub mod EvaluationLaws
pub mod VerdictLaws
pub mod RangeLaws
pub mod UnitLaws
pub mod QuantifierLaws
