pub mod Steps
pub mod Rows
pub mod Tokens
pub mod Slots
