pub mod Skipping
pub mod Standing
pub mod Looking
pub mod Copying
pub mod Answers
