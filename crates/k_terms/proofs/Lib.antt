mod Examples
pub mod Levels
pub mod OrderLaws
pub mod Layers
pub mod SortRows
pub mod Words
pub mod WellFormed
