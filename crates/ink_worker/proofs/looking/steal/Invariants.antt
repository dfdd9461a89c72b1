use Rattle.std.proofs.Common.{◌≡◌, vec_len}
use Rattle.crossbeam_queue.specs.SegTies.{IsSegPassOf}
use Rattle.ink_worker.proofs.looking.steal.Given as goal

abbrev pub invariant-loop-from : goal.invariant-loop-from
invariant-loop-from g l = record { pass : IsSegPassOf l.deck.common l.seat.own.entry; count : vec_len l.seat.far ≡ l.from-end }
