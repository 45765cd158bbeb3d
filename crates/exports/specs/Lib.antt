pub mod Types
pub mod Layout
pub mod Answers
pub mod Scripts
pub mod Private
