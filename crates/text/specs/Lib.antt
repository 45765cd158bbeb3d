pub mod Types
pub mod Ascii
pub mod Digits
pub mod Reading
pub mod Writing
pub mod Claims
pub mod Private
