-- Laws about reporting's definitions.
pub mod MarkLaws
pub mod NumberLaws
pub mod LineLaws
pub mod ReportLaws
pub mod UnitLaws
pub mod JoinLaws
pub mod AnswerLaws
