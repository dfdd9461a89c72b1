pub mod Faults
pub mod Homes
pub mod Lent
pub mod Machine
pub mod Stops
