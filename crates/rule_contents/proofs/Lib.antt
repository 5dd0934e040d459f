pub mod Asking
pub mod Halves
pub mod Marking
pub mod Placing
