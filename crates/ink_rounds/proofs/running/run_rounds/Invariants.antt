use Rattle.std.proofs.Common.{◌≡◌}
use Rattle.ink_post.specs.Worlds.{Stands}
use Rattle.ink_rounds.specs.Homes.{WritesOn}
use Rattle.ink_rounds.proofs.running.run_rounds.Given as goal
use Rattle.ink_run.specs.Sinks.{sink_of}

abbrev pub invariant-loop : goal.invariant-loop
invariant-loop g l = record {
  stands : Stands l.code l.world.post;
  written : WritesOn l.code l.initial.world.post l.world.post (sink_of g.K.Sink.contents g.K.Sink.faults l.initial.world.sink) (sink_of g.K.Sink.contents g.K.Sink.faults l.world.sink);
  limits : l.world.post.limits ≡ l.initial.world.post.limits;
}
