pub mod Cutting
pub mod Numbering
pub mod Backward
pub mod ShapeValues
pub mod Telling
pub mod Standing
pub mod Free
