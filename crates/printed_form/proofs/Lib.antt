mod Examples
pub mod Texts
pub mod Joins
pub mod Cells
pub mod Sorting
pub mod SamePrint
