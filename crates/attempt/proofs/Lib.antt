pub mod AttemptLaws
pub mod AttemptUntouched
