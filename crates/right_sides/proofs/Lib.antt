pub mod Lists
pub mod Expressions
mod Places
mod NewEntries
mod Cells
pub mod SideDefined
