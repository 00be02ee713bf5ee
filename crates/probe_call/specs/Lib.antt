-- The root of probe_call's definitions.
pub mod Natural
