-- The root of sheet's definitions.
pub mod Sheet
pub mod Begins
pub mod Answers
pub mod Places
pub mod Followers
