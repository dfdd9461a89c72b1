pub mod Moves
pub mod Owners
pub mod Parts
pub mod Walk
