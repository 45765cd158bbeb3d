pub mod Cuts
pub mod Examples
pub mod Going
pub mod Lists
pub mod Outputs
pub mod Texts
pub mod Turns
pub mod WithoutRanks
