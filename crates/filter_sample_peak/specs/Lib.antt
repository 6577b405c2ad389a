pub mod Peak
pub mod Inner
