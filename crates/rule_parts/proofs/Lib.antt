pub mod Lists
pub mod TermLayers
pub mod PartLayers
