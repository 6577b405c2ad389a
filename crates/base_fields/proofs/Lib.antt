pub mod Fields
pub mod Written
pub mod Turned
pub mod Orders
pub mod High
pub mod Chunks
