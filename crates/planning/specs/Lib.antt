-- The root of planning's definitions.
pub mod Planning
