pub mod Measures
pub mod Levels
