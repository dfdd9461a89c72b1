use Rattle.ink_proc.specs.State.{state_of}
use Rattle.ink_rounds.proofs.Following.{idle_stays}
use Rattle.ink_rounds.proofs.round.come_idle.Goals as goal
use Rattle.ink_run.specs.Sinks.{sink_of}

pub returns-in-Ok-right-clause-journal : goal.returns-in-Ok-right-clause-journal
returns-in-Ok-right-clause-journal g c =
    idle_stays c.args.code.now c.args.number c.args.came (state_of c.args.proc) c.args.world.now.post c.check_in.new.self.post
    (sink_of g.K.Sink.contents g.K.Sink.faults c.args.world.now.sink) (sink_of g.K.Sink.contents g.K.Sink.faults c.check_in.new.self.sink)
    c.in-Ok.applied c.requires.idle c.in-Ok-right.ensures c.in-Ok.ensures.checks
