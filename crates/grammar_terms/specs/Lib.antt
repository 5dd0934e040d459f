pub mod Grammar
pub mod Edges
pub mod Places
pub mod Reading
pub mod Cuts
pub mod Values
pub mod Builtins
pub mod Laws
