pub mod Commuting
pub mod Determined
pub mod Numbering
pub mod Ordered
pub mod Sharing
pub mod Stepping
