pub mod Answers
pub mod Quick
pub mod Rows
pub mod Slices
