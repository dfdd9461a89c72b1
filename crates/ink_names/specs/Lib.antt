pub mod BuiltIns
pub mod Implementations
pub mod Least
pub mod MethodNames
pub mod Pairs
pub mod Resolutions
pub mod Tables
pub mod Later
