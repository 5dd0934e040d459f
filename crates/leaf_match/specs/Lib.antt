pub mod Bindings
pub mod Maps
pub mod Depths
pub mod Contents
