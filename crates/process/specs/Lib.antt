pub mod Types
pub mod Process
pub mod Places
pub mod Rules
pub mod Naps
pub mod Fits
pub mod InCode
pub mod Private
