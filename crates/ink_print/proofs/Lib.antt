pub mod Trees
pub mod Told
pub mod Cost
pub mod Turns
pub mod Laid
