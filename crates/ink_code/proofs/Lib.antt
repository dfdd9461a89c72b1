pub mod ListingLemmas
pub mod RowExamples
pub mod RunExamples
pub mod StepExamples
pub mod TreeLemmas
