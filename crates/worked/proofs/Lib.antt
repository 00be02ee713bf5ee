-- Document 01's proved examples, and whole calls, computed.
pub mod Examples
pub mod Calls
