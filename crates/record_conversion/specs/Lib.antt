pub mod Conversion
pub mod Inner
