pub mod Slices
pub mod Entries
pub mod Rows
