pub mod Ranges
pub mod Searching
pub mod Outcomes
pub mod OneCell
pub mod DraftParts
pub mod InRange
pub mod AllSound
