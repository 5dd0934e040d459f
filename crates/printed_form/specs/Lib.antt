pub mod Words
pub mod Pieces
pub mod Printed
pub mod Configurations
pub mod Open
pub mod Laws
