-- The root of index's laws.
pub mod WalkLaws
pub mod OrderLaws
pub mod EndLaws
pub mod TestLaws
pub mod BufferLaws
pub mod SortLaws
pub mod InsertLaws
pub mod StoreLaws
pub mod AscendingLaws
pub mod ReorderLaws
pub mod ShuffleLaws
pub mod FilledLaws
