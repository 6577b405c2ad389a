pub mod Places
pub mod Shown
pub mod Said
pub mod Parts
