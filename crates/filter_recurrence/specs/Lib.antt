pub mod Recurrence
pub mod Channels
