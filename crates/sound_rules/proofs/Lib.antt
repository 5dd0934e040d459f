pub mod Strict
pub mod Literals
pub mod Written
