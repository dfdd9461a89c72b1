pub mod LimitLemmas
pub mod WordLemmas
pub mod WrongWords
