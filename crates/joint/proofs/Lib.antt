-- A8: what a call takes and reports is as it was outside of the list, and the list is what it says.
pub mod PaceLaws
pub mod StepLaws
pub mod HeadLaws
pub mod ListLaws
pub mod JointLaws
pub mod Calls
pub mod Examples
