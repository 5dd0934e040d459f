mod Binding
mod Firing
pub mod Finding
mod Matching
pub mod Stepping
mod Logs
