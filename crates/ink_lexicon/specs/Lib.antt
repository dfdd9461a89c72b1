pub mod Lexicon
pub mod Trees
