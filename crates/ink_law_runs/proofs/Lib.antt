pub mod Counted
pub mod Handled
pub mod Replayed
