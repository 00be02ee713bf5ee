-- The root of search's laws.
pub mod FirstLaws
pub mod SearchLaws
