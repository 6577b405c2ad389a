pub mod Patterns
pub mod Cases
