pub mod Readings
pub mod Waiting
