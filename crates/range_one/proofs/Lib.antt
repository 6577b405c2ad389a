pub mod Counting
pub mod Searching
pub mod Answers
