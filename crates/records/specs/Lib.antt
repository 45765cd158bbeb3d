pub mod Types
pub mod Layout
pub mod Reading
pub mod Claims
pub mod Private
