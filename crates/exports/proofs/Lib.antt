pub mod Chains
pub mod Giving
pub mod Sessions
pub mod Ways
