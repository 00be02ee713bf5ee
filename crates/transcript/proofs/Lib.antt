-- The root of transcript's laws.
pub mod TurnLaws
pub mod CallLaws
