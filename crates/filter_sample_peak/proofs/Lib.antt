pub mod Loudest
pub mod Cutting
pub mod Alone
mod Rest
mod Tops
mod Lanes
