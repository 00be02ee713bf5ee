-- The root of c_plan's definitions.
pub mod Reports
pub mod Plan
