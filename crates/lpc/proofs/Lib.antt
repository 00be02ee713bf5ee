-- Laws about lpc's definitions.
pub mod FilterLaws
pub mod RingLaws
pub mod HistoryLaws
pub mod RunLaws
pub mod StateLaws
pub mod SumLaws
