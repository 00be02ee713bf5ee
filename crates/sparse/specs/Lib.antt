-- The root of sparse's definitions.
pub mod Sparse
