pub mod Trees
pub mod Completion
pub mod Faults
pub mod Listed
pub mod Laws
pub mod Building
pub mod Sample
