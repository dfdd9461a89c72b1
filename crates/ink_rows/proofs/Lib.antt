pub mod IntLemmas
