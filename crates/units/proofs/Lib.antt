-- Laws about units' definitions.
pub mod UnitLaws
pub mod NameLaws
pub mod SelectLaws
pub mod WalkLaws
pub mod SampleLaws
pub mod StepLaws
pub mod EndLaws
pub mod NearestLaws
pub mod AskedLaws
