-- A1: what a strict call refuses, and that it is else the call with strict off.
pub mod PairLaws
pub mod OffLaws
pub mod Causes
pub mod Strict
pub mod Computed
