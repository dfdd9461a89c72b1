use Rattle.std.proofs.Common.{◌≡◌, ◌+◌, vec_len, All}
use Rattle.crossbeam_queue.specs.SegTies.{IsSegPassOf}
use Rattle.ink_deck.proofs.deck.seats.Given as goal

abbrev pub invariant-loop : goal.invariant-loop
invariant-loop l =
    (vec_len l.owns + l.counter ≡ l.fn.workers) × (vec_len l.fars + l.counter ≡ l.fn.workers) × (vec_len l.seats ≡ l.counter)
    × All (λ side. IsSegPassOf l.common side.entry) l.owns.items × All (λ far. vec_len far ≡ l.fn.workers) l.fars.items
    × All (λ seat. IsSegPassOf l.common seat.own.entry × (vec_len seat.far ≡ l.fn.workers)) l.seats.items
