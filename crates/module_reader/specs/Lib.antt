pub mod Modules
pub mod Faults
pub mod Joining
pub mod Laws
