pub mod Globals
pub mod GoodReports
pub mod ReportReadings
pub mod Inside
