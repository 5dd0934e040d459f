pub mod Completing
pub mod Told
pub mod WrittenRules
pub mod Assembling
pub mod Laws
