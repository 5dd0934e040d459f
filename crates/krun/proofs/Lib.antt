mod Headlines
pub mod Fronts
mod Causes
mod Asking
mod Defining
mod Kasting
mod Ruling
mod Grouping
