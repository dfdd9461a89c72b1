pub mod Scopes
pub mod Exits
