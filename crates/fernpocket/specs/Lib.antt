pub mod Before
pub mod OneEach
pub mod Promised
