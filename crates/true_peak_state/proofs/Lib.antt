pub mod Channels
pub mod Independence
pub mod Cuts
pub mod Worked
