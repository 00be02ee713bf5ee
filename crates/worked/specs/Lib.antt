-- The root of worked's definitions.
pub mod Tried
pub mod Files
pub mod ProvedExamples
