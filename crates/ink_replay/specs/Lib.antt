pub mod Calm
pub mod Ends
pub mod Entries
pub mod Faults
pub mod Keeps
pub mod Refusals
pub mod Stops
