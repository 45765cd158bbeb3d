pub mod LeftOut
pub mod Heads
pub mod Cuts
pub mod GuardFields
pub mod Growing
pub mod Letters
pub mod Unranked
