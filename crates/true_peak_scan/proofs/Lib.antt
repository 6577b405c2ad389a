pub mod Changed
pub mod Windows
pub mod Tops
pub mod Frames
