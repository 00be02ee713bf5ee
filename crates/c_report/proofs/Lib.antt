-- Laws about the report from C.
pub mod ReportLaws
