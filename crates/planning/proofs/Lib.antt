-- Laws about planning.
pub mod HoldLaws
pub mod PlanLaws
