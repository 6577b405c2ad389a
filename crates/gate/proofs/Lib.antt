pub mod Running
pub mod Nothing
pub mod Stretches
pub mod Start
pub mod Looking
pub mod Keeping
pub mod Asked
pub mod Gating
pub mod Alone
mod Means
