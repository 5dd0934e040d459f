pub mod Syntaxes
