pub mod Appended
mod StoredLemmas
