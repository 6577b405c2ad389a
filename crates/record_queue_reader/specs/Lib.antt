pub mod QueueRecord
pub mod Inner
