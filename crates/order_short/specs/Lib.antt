pub mod Short
pub mod Inner
