pub mod Codes
pub mod Meaning
pub mod Table
pub mod ReadBack
pub mod Choices
