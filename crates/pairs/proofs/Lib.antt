-- Laws about pairs' definitions.
pub mod PairLaws
pub mod Computed
