use Rattle.std.proofs.Common.{vec_len}
use Rattle.crossbeam_queue.specs.SegTies.{IsSegPassOf}
use Rattle.ink_worker.proofs.looking.tell.Given as goal

abbrev pub invariant-loop-process : goal.invariant-loop-process
invariant-loop-process g l = IsSegPassOf l.deck.common l.seat.own.entry

abbrev pub decreases-loop-process : goal.decreases-loop-process
decreases-loop-process g l = vec_len l.plan.ready
