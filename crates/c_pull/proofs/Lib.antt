-- The root of c_pull's laws.
pub mod PullLaws
pub mod HeldLaws
