-- Laws about the float filter.
pub mod NextLaws
pub mod SampleLaws
