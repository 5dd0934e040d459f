pub mod Lookup
pub mod Signs
pub mod Tags
pub mod Forms
pub mod CellTokens
pub mod Laws
