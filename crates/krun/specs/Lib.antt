pub mod Lines
pub mod Outcome
pub mod Refusals
pub mod Headline
pub mod Causes
pub mod Assembled
pub mod Kast
pub mod Rules
