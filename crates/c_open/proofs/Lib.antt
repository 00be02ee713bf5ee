-- The root of c_open's laws.
pub mod RecordLaws
