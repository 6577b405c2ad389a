pub mod Powers
pub mod Scale
pub mod Readings
