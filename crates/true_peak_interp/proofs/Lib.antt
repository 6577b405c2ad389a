pub mod Rules
pub mod Rates
pub mod Sums
