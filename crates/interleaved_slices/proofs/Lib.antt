pub mod Places
pub mod Checking
pub mod Reading
pub mod Splitting
pub mod Cut
