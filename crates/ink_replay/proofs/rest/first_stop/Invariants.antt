use Rattle.std.proofs.Common.{◌≡◌, None}
use Rattle.ink_replay.specs.Calm.{AreAtRest}
use Rattle.ink_replay.specs.Entries.{AddsNone}
use Rattle.ink_replay.specs.Keeps.{Keeps}
use Rattle.ink_replay.proofs.rest.first_stop.Given as goal
use Rattle.ink_run.specs.Sinks.{sink_of}

abbrev pub invariant-loop : goal.invariant-loop
invariant-loop g l = record {
  keeps : Keeps l.code l.initial.world.post l.world.post (sink_of g.K.Sink.contents g.K.Sink.faults l.initial.world.sink) (sink_of g.K.Sink.contents g.K.Sink.faults l.world.sink);
  goes : l.world.post.halt ≡ None;
  rest : AreAtRest l.world.post.statuses.items;
  none : AddsNone l.initial.world.post l.world.post;
}
