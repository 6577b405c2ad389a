mod Arising
mod Gating
mod Starting
mod Meaning
mod Equals
mod Sets
mod OverQueues
mod OverHistograms
pub mod Gate
pub mod Range
pub mod Ranks
