pub mod Writing
pub mod Numbering
pub mod Completed
pub mod Rules
pub mod Sample
