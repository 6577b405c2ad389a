pub mod Counting
pub mod Ranking
pub mod Answers
