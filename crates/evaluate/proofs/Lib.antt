pub mod EvaluateLaws
