-- The root of distinct's laws.
pub mod BlockLaws
pub mod NeighbourLaws
