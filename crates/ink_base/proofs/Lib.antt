pub mod Examples
pub mod IdentLemmas
pub mod LimitLemmas
pub mod SliceLemmas
