pub mod Paths
pub mod States
