pub mod Refusal
pub mod Outcome
pub mod Rows
pub mod Answer
pub mod Codes
