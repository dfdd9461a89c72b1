pub mod Grown
pub mod Readers
pub mod Lists
pub mod Fitting
pub mod Runs
pub mod Kept
pub mod Ordered
