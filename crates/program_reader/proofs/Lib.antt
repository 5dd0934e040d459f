pub mod Valuing
pub mod Twofold
pub mod Determined
