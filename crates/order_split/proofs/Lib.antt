pub mod Parting
pub mod Joining
pub mod Depth
