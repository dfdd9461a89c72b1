pub mod Answers
pub mod NextDrop
