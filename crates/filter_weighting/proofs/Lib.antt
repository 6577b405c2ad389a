pub mod Destinations
pub mod Alone
mod Pairs
mod Single
mod Separate
