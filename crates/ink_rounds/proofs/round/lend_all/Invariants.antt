use Rattle.std.proofs.Common.{◌≡◌, length}
use Rattle.ink_code.specs.declared.code.Code.{Code}
use Rattle.ink_post.specs.Worlds.{Stands}
use Rattle.ink_rounds.proofs.Lending.{Lending}
use Rattle.ink_rounds.specs.Homes.{WritesOn}
use Rattle.ink_rounds.specs.Lent.{HasLent}
use Rattle.ink_rounds.specs.Machine.{gone_of, ready_in}
use Rattle.ink_rounds.proofs.round.lend_all.Given as goal
use Rattle.ink_run.specs.Sinks.{sink_of}

abbrev pub invariant-loop-number : goal.invariant-loop-number
invariant-loop-number g l = record {
  lends : (code : Code) → Stands code l.initial.world.post → HasLent code l.world.post l.lent.items;
  all : Lending l.initial.world.post l.world.post (gone_of l.lent.items);
  limits : l.world.post.limits ≡ l.initial.world.post.limits;
  written : (code : Code) → WritesOn code l.initial.world.post l.world.post (sink_of g.K.Sink.contents g.K.Sink.faults l.initial.world.sink) (sink_of g.K.Sink.contents g.K.Sink.faults l.world.sink);
}

abbrev pub decreases-loop-number : goal.decreases-loop-number
decreases-loop-number g l = length (ready_in l.world.post)
