-- Laws about taking's definitions.
pub mod PeriodLaws
pub mod UnitLaws
