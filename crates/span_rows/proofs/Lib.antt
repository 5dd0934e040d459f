pub mod Adding
pub mod Seeding
