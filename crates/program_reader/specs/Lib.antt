pub mod Readings
pub mod Programs
pub mod Laws
