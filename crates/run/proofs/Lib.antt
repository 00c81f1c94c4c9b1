pub mod Memory
pub mod Wants
pub mod Coverage
pub mod StepLaws
pub mod RunPaths
pub mod RunLoop
pub mod RunUntouched
