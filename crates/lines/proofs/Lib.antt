-- The root of lines' laws.
pub mod PutLaws
