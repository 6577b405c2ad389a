pub mod Bins
pub mod Halving
pub mod Readings
pub mod Scanning
