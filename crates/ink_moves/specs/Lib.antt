pub mod Around
pub mod Fates
