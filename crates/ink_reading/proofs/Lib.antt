pub mod FaultLemmas
pub mod GrammarLemmas
pub mod OnlyLemmas
pub mod ReadingLemmas
