pub mod Near
pub mod InFloats
pub mod Worked
