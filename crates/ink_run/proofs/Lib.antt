pub mod ActsLemmas
pub mod Begins
pub mod Stays
pub mod Written
pub mod WrongLemmas
