pub mod formers
pub mod Value
pub mod Sorts
pub mod Operators
pub mod Laws
pub mod Parts
pub mod SortTable
pub mod Names
