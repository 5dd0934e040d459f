pub mod Written
pub mod Files
pub mod Meaning
pub mod Heads
pub mod Passages
pub mod Reads
pub mod Progress
