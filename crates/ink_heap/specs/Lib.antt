pub mod Answers
pub mod Bounds
pub mod Pairs
pub mod View
