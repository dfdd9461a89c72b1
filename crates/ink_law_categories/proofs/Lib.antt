pub mod Shapes
pub mod Levels
pub mod Steps
pub mod Fits
pub mod Fitting
pub mod SampleLemmas
pub mod PartLemmas
