pub mod AnswerLemmas
pub mod QuickLemmas
pub mod SliceLemmas
