pub mod Sample
pub mod Kinds
pub mod Laws
pub mod Frames
pub mod Stretches
