pub mod Bodies
pub mod Cells
pub mod Drafts
pub mod Laws
