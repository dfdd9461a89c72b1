use Rattle.ink_run.specs.Sinks.{sink_of}
use Rattle.ink_commands.proofs.Written.{GoesOn}
use Rattle.ink_commands.proofs.running.run_freely.Given as goal

abbrev pub invariant-loop : goal.invariant-loop
invariant-loop g l =
    GoesOn l.code l.initial.world.post l.world.post (sink_of g.K.Sink.contents g.K.Sink.faults l.initial.world.sink)
    (sink_of g.K.Sink.contents g.K.Sink.faults l.world.sink)
