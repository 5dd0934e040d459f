pub mod Places
pub mod Drafts
pub mod Heating
pub mod SoundDrafts
pub mod Laws
