pub mod Bin
pub mod Energy
pub mod Reading
