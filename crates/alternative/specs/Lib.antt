pub mod Types
pub mod Guards
pub mod Kinds
pub mod Ranks
pub mod Exchange
