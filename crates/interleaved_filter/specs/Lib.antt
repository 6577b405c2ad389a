pub mod Over
pub mod Said
