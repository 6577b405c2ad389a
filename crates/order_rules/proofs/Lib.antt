pub mod Perms
pub mod Energies
pub mod InOrder
pub mod Places
pub mod AllAbove
pub mod Answers
