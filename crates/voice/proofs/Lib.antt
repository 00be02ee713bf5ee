-- Laws about voice's definitions.
pub mod EntryLaws
pub mod PeriodLaws
pub mod OpeningLaws
pub mod LowLaws
pub mod NeededLaws
pub mod TableLaws
pub mod OpenLaws
