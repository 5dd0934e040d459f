pub mod Terminals
pub mod Base
pub mod Words
pub mod Splits
pub mod Laws
