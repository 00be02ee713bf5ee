-- Laws about the blocks.
pub mod PredictLaws
