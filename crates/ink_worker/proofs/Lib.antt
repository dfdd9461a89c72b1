mod HandLemmas
mod HomeLemmas
mod TurnLemmas
