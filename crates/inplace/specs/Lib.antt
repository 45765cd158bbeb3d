pub mod Types
pub mod Layout
pub mod Reading
pub mod Calls
pub mod Leaves
pub mod Claims
pub mod Private
