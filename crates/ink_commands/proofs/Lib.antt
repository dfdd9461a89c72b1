pub mod Lowered
pub mod Meant
pub mod Replays
pub mod Reported
pub mod Verdicts
pub mod Written
