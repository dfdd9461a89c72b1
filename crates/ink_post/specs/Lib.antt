pub mod Answers
pub mod Asks
pub mod Ends
pub mod Entries
pub mod Meaning
pub mod Starting
pub mod Turning
pub mod Worlds
