-- The root of reporting's definitions.
pub mod Report
pub mod Claims
pub mod Reporting
