pub mod Inner
pub mod TruePeak
pub mod CallsInner
