-- Laws about checking's definitions.
pub mod NaturalLaws
pub mod ModifiedLaws
pub mod PlanLaws
pub mod NeedLaws
pub mod CheckLaws
