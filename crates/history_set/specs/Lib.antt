pub mod Set
pub mod Lent
