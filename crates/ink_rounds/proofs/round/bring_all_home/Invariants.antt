use Rattle.std.proofs.Common.{◌≡◌, length, reverse}
use Rattle.ink_code.specs.Rounds.{RoundState}
use Rattle.ink_post.specs.Worlds.{Stands}
use Rattle.ink_rounds.specs.Homes.{WritesOn}
use Rattle.ink_rounds.proofs.Bringing.{Leading}
use Rattle.ink_rounds.specs.Lent.{AreHomeward}
use Rattle.ink_rounds.specs.Machine.{Awaits, Gone}
use Rattle.ink_rounds.proofs.round.bring_all_home.Given as goal
use Rattle.ink_run.specs.Sinks.{sink_of}

abbrev pub invariant-loop-one : goal.invariant-loop-one
invariant-loop-one g l = record {
  stands : Stands l.code l.world.post;
  comes : AreHomeward l.code l.world.post (reverse l.lent.items);
  written : WritesOn l.code l.initial.world.post l.world.post (sink_of g.K.Sink.contents g.K.Sink.faults l.initial.world.sink) (sink_of g.K.Sink.contents g.K.Sink.faults l.world.sink);
  limits : l.world.post.limits ≡ l.initial.world.post.limits;
  follows : (gone : Gone) (run : RoundState) → Awaits l.code gone (reverse l.initial.lent.items) l.initial.world.post run → Leading l.code l.initial.world.post.limits gone run l.world.post l.lent.items;
}

abbrev pub decreases-loop-one : goal.decreases-loop-one
decreases-loop-one g l = length l.lent.items
