pub mod Layers
pub mod OneReading
pub mod Determined
pub mod Asked
pub mod Phases
