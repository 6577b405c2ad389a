pub mod Channel
pub mod TruePeak
