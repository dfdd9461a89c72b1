pub mod Counted
pub mod Measures
pub mod Heights
pub mod Known
