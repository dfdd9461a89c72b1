pub mod Integers
pub mod Lines
pub mod Spellings
pub mod Unescaped
pub mod Value
