pub mod Running
pub mod Fronts
pub mod Reaching
pub mod Contents
pub mod Deciding
pub mod Single
