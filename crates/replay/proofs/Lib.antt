-- The root of replay's laws.
pub mod StoredLaws
pub mod TallyLaws
