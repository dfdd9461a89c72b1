pub mod Cover
pub mod Rows
pub mod Views
pub mod Search
