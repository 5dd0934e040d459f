pub mod Written
pub mod Forms
pub mod Steps
pub mod Reading
pub mod Laws
