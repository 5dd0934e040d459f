pub mod Trees
pub mod Initials
pub mod Defaults
pub mod Sample
