pub mod Order
pub mod Nan
pub mod Largest
pub mod Magnitude
pub mod Value
