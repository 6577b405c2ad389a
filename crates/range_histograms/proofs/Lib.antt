pub mod Adding
pub mod Counting
pub mod Answers
pub mod Single
