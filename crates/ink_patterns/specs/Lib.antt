pub mod Makes
pub mod Patterns
pub mod Types
