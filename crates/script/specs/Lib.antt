pub mod Types
pub mod Printing
pub mod Lines
pub mod Session
pub mod Feeding
pub mod Examples
pub mod WithoutRanks
pub mod Private
