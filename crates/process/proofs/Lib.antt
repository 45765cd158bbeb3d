pub mod Differs
pub mod OnlyTold
pub mod PlaceCases
pub mod Movers
pub mod Naps
pub mod RuleLaws
