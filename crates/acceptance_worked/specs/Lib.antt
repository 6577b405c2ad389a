pub mod Worked
pub mod Literals
