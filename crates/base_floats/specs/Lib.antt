pub mod Entry
pub mod Largest
pub mod Inner
