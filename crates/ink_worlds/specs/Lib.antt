pub mod Standing
pub mod State
