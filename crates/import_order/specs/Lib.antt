pub mod Imports
pub mod Order
pub mod Laws
pub mod Walking
pub mod Reaching
