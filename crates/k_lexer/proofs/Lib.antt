mod Examples
pub mod Chars
pub mod Decoding
pub mod Heads
pub mod Tails
pub mod Strings
pub mod Stopping
pub mod Taking
pub mod Steps
pub mod Faults
pub mod Words
pub mod Before
pub mod Standing
