pub mod Reasons
pub mod Rows
pub mod Endings
pub mod Telling
pub mod Proper
pub mod CellFaults
pub mod Closings
mod SoundLanguage
