pub mod Lists
pub mod Placing
pub mod Reading
pub mod Single
pub mod Making
pub mod Outcomes
pub mod Plain
pub mod Declaring
