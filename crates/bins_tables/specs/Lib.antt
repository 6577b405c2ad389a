pub mod Tables
pub mod Rules
