pub mod Clauses
pub mod Ending
pub mod Meanings
pub mod Outcomes
pub mod Output
pub mod Promise
pub mod Reported
pub mod Told
