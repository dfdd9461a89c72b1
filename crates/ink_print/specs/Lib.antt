pub mod Table
pub mod Surround
pub mod Printed
pub mod Work
pub mod Layout
