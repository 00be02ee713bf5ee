-- The root of c_state's laws.
pub mod StateLaws
pub mod RoundLaws
pub mod StorableLaws
