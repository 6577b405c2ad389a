pub mod Numbers
pub mod Rows
pub mod Behind
pub mod Told
