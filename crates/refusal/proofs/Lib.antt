-- Laws about the numbers of refusals.
pub mod NumberLaws
