pub mod Ranges
pub mod Rule
