pub mod Sinks
pub mod Written
