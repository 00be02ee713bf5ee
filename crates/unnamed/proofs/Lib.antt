-- A5: calls under the same settings answer alike, and a filter left unnamed is float.
pub mod SameLaws
pub mod AlikeLaws
pub mod Makes
pub mod AsFloat
