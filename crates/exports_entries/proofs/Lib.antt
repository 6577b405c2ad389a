mod Reading
pub mod Asked
