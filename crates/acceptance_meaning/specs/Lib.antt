pub mod Levels
pub mod Bs1770
pub mod Tech3342
pub mod Gate
pub mod Range
pub mod Ranks
