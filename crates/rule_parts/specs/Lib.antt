pub mod Productions
pub mod Leaves
pub mod Terms
pub mod Parts
pub mod Sides
