pub mod Loops
pub mod Skips
pub mod Opens
pub mod Searches
