pub mod Ranks
pub mod Span
