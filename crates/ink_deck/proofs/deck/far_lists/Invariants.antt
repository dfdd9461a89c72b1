use Rattle.std.proofs.Common.{◌≡◌, vec_len, All}
use Rattle.ink_deck.proofs.deck.far_lists.Given as goal

abbrev pub invariant-loop : goal.invariant-loop
invariant-loop l = (vec_len l.fars ≡ l.counter) × All (λ far. vec_len far ≡ vec_len l.owns) l.fars.items
