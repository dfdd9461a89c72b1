pub mod Answers
pub mod Making
pub mod Receiver
pub mod Items
pub mod Given
pub mod Target
