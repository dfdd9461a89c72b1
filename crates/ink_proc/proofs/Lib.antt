pub mod FrontLemmas
pub mod MovingLemmas
pub mod PuttingLemmas
