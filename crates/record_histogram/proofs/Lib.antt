pub mod Cases
pub mod WriterCases
pub mod Again
