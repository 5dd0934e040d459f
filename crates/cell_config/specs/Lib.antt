pub mod Divisions
pub mod Refusals
pub mod Cells
pub mod Reading
pub mod Trees
pub mod Laws
