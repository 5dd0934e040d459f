pub mod Places
pub mod Contents
pub mod Told
pub mod Readings
pub mod Rules
pub mod Laws
