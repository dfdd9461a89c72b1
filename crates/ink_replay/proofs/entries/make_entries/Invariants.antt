use Rattle.std.proofs.Common.{◌≡◌, take}
use Rattle.ink_replay.specs.Calm.{IsCalm}
use Rattle.ink_replay.specs.Keeps.{IsUncut, Keeps}
use Rattle.ink_replay.proofs.entries.make_entries.Given as goal
use Rattle.ink_run.specs.Sinks.{sink_of}

abbrev pub invariant-loop-index : goal.invariant-loop-index
invariant-loop-index g l = record {
  keeps : Keeps l.code l.initial.world.post l.world.post (sink_of g.K.Sink.contents g.K.Sink.faults l.initial.world.sink) (sink_of g.K.Sink.contents g.K.Sink.faults l.world.sink);
  calm : IsCalm l.world.post;
  uncut : IsUncut l.world.post.halt;
  made : l.world.post.journal.entries ≡ take l.index l.journal.entries;
}
