pub mod Taps
pub mod Rules
pub mod Interp
pub mod Phase
