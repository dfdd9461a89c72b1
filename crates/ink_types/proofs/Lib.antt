pub mod Examples
pub mod Tables
pub mod Keys
pub mod Same
pub mod Filling
pub mod Prefixes
pub mod Occurrences
