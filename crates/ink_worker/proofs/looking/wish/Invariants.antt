use Rattle.crossbeam_queue.specs.SegTies.{IsSegPassOf}
use Rattle.ink_worker.proofs.looking.wish.Given as goal

abbrev pub invariant-loop : goal.invariant-loop
invariant-loop g l = IsSegPassOf l.deck.common l.seat.own.entry
