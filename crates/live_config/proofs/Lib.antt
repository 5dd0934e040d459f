pub mod ExamplesPar
mod ExamplesPlain
pub mod ExamplesFiring
mod ExamplesFootprint
pub mod Fitting
pub mod Entries
pub mod Places
pub mod Equal
pub mod PlaceTests
pub mod Trees
pub mod Members
pub mod Children
pub mod Levels
pub mod AlikeCells
pub mod SpotTree
pub mod Standing
pub mod Numbering
pub mod Binding
pub mod After
pub mod Untouched
pub mod RightSide
pub mod KeepsFits
pub mod MakesKinds
pub mod FiringLaws
