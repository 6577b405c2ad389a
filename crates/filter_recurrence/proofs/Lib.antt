pub mod Moving
pub mod Each
pub mod Memories
pub mod Runs
pub mod Alone
