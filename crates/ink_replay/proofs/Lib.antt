mod CalmLemmas
mod EndLemmas
mod LookLemmas
mod RestLemmas
mod StuckLemmas
mod TurnLemmas
