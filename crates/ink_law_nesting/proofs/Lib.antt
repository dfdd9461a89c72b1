pub mod Spelled
pub mod Parts
pub mod ReadCases
pub mod Onward
pub mod Scanned
