pub mod Typed
pub mod Moves
pub mod Arguments
