pub mod Ahead
pub mod Machines
pub mod Order
pub mod Turns
