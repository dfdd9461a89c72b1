pub mod Walk
pub mod States
pub mod Listed
