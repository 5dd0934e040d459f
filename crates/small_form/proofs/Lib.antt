mod ReadsLemmas
mod Unique
mod Exact
mod Nodes
mod Grounds
mod Left
mod Rules
pub mod Parts
mod Terms
mod Assembled
mod Values
pub mod SmallNumbers
pub mod SmallIsSound
