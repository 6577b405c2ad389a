pub mod Tallies
pub mod Counts
pub mod Plans
pub mod Together
pub mod Dealing
