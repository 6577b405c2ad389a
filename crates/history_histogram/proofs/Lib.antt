pub mod Counters
pub mod Sums
pub mod Cases
pub mod Room
