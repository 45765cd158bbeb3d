pub mod Sheet
pub mod AddsUp
pub mod Examples
