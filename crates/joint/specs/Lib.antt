-- The root of joint's definitions.
pub mod OldRule
pub mod EmptyHeads
pub mod Claims
pub mod Examples
