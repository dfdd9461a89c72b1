pub mod Hands
pub mod Sides
