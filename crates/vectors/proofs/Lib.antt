-- The root of vectors' laws.
pub mod TallyLaws
pub mod VectorLaws
