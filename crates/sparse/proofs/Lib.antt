-- The root of sparse's laws.
pub mod SparseLaws
