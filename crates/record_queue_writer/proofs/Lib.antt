pub mod Places
pub mod Cases
pub mod Patterns
pub mod Again
