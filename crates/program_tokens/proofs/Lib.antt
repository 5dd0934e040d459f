pub mod Numbers
pub mod Lookup
pub mod Naming
pub mod Reading
pub mod Splitting
pub mod Once
pub mod Symbols
pub mod Least
