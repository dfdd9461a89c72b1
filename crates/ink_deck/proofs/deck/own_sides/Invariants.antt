use Rattle.std.proofs.Common.{◌≡◌, vec_len, All}
use Rattle.crossbeam_queue.specs.SegTies.{IsSegPassOf}
use Rattle.ink_deck.proofs.deck.own_sides.Given as goal

abbrev pub invariant-loop : goal.invariant-loop
invariant-loop l = (vec_len l.owns ≡ l.counter) × All (λ side. IsSegPassOf l.common side.entry) l.owns.items
