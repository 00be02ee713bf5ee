-- Laws about the filling of a call's buffers.
pub mod MarkLaws
pub mod PeriodLaws
pub mod TakeLaws
pub mod JoinLaws
pub mod FillLaws
