pub mod Putting
pub mod Parents
pub mod Levels
pub mod Sample
