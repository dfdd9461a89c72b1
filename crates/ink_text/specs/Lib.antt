pub mod Place
pub mod Utf8
