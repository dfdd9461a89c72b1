pub mod Answers
pub mod Boxes
