pub mod Characters
pub mod Tokens
pub mod Lexing
pub mod Laws
pub mod Fronts
pub mod Before
