pub mod Weighting
pub mod Inner
pub mod Seeding
