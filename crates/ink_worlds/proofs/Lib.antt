pub mod Stands
pub mod Waking
