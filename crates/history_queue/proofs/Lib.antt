pub mod Ring
pub mod Held
pub mod Standing
pub mod Enqueued
pub mod Newest
pub mod Fed
