-- Laws about probe's definitions.
pub mod FilterLaws
