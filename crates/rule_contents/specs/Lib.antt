pub mod Contents
pub mod Words
pub mod Readings
pub mod Operators
pub mod Laws
