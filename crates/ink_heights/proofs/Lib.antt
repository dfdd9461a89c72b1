pub mod KnownLemmas
pub mod LowLemmas
pub mod SameLemmas
