pub mod Front
pub mod Bindings
pub mod Laws
