pub mod Order
pub mod Arrangement
