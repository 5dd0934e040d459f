mod Examples
pub mod Members
pub mod Firsts
pub mod Closures
pub mod Walks
pub mod Sequences
pub mod Searching
pub mod Building
