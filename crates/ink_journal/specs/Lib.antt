pub mod Fault
pub mod File
pub mod Reading
