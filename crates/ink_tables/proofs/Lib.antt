mod Numbering
mod LineLemmas
mod NumberLemmas
