-- The root of c_plan's laws.
pub mod NumberLaws
pub mod PlannedLaws
