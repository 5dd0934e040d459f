pub mod Naming
pub mod Placing
pub mod Subsorts
pub mod Leading
pub mod Sorting
pub mod Marks
pub mod Laws
