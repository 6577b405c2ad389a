pub mod Records
pub mod Conversion
pub mod Report
