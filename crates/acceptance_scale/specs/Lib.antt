pub mod Scale
pub mod Readings
