pub mod Lists
pub mod ItemLayers
pub mod Drafting
pub mod Single
