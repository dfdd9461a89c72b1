pub mod Answers
pub mod Copying
pub mod Starts
pub mod State
