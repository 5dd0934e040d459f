pub mod Bound
pub mod Entries
pub mod Contents
pub mod Laws
