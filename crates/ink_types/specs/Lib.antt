pub mod TypeTerms
pub mod Table
pub mod Codes
pub mod Matching
