pub mod Totals
pub mod Start
pub mod Sums
pub mod Relative
pub mod Kept
pub mod Gate
pub mod Inner
pub mod GatedEnergy
