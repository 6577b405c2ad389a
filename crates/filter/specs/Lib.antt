pub mod Filter
pub mod Call
pub mod Process
pub mod Seed
pub mod Peaks
