pub mod Histogram
pub mod Merge
