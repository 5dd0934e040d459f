pub mod Pairing
pub mod AlikeLaws
pub mod FilledAlike
pub mod Filling
pub mod SitesFire
pub mod StepSites
pub mod Births
pub mod Stuck
