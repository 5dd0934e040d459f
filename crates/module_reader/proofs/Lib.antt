pub mod Naming
pub mod Missing
pub mod Graphs
pub mod Sources
pub mod Stopping
pub mod Outcomes
pub mod Texts
