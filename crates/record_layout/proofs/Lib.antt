pub mod Frames
pub mod Heads
pub mod Runs
pub mod Turns
pub mod Again
