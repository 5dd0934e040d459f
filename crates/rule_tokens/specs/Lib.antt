pub mod Lookup
pub mod Signs
pub mod Forms
pub mod RuleTokens
pub mod Splits
pub mod Variables
pub mod Tables
pub mod Laws
