use Rattle.std.proofs.Common.{◌≡◌, length, reverse}
use Rattle.ink_post.specs.Worlds.{Stands}
use Rattle.ink_rounds.specs.Homes.{WritesOn}
use Rattle.ink_rounds.specs.Lent.{AreHomeward}
use Rattle.ink_rounds.proofs.round.give_all_up.Given as goal
use Rattle.ink_run.specs.Sinks.{sink_of}

abbrev pub invariant-loop-one : goal.invariant-loop-one
invariant-loop-one g l = record {
  stands : Stands l.code l.world.post;
  comes : AreHomeward l.code l.world.post (reverse l.lent.items);
  written : WritesOn l.code l.initial.world.post l.world.post (sink_of g.K.Sink.contents g.K.Sink.faults l.initial.world.sink) (sink_of g.K.Sink.contents g.K.Sink.faults l.world.sink);
  limits : l.world.post.limits ≡ l.initial.world.post.limits;
  journal : l.world.post.journal.entries ≡ l.initial.world.post.journal.entries;
}

abbrev pub decreases-loop-one : goal.decreases-loop-one
decreases-loop-one g l = length l.lent.items
