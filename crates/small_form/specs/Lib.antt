pub mod Pieces
pub mod Small
pub mod Program
