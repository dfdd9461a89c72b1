use Rattle.std.proofs.Common.{[], ap, ◌∙◌}
use Rattle.ink_post.specs.Worlds.{CodeState}
use Rattle.ink_rounds.proofs.Following.{home_next, idle_next}
use Rattle.ink_rounds.proofs.round.bring_home.Goals as goal
use Rattle.ink_run.specs.Sinks.{sink_of}

pub returns-in-Ok-clause-follows : goal.returns-in-Ok-clause-follows
returns-in-Ok-clause-follows g c = λ first gone lent run awaits.
    home_next c.args.code.now c.args.world.now.post c.check_in.new.self.post c.args.one first gone lent run awaits
    (sink_of g.K.Sink.contents g.K.Sink.faults c.args.world.now.sink) (sink_of g.K.Sink.contents g.K.Sink.faults c.check_in.new.self.sink)
    c.in-Ok.applied c.in-Ok-right.ensures c.in-Ok.ensures.checks

pub returns-clause-follows : goal.returns-clause-follows
returns-clause-follows g c = λ first gone lent run awaits.
    idle_next c.args.code.now c.args.world.now.post c.come_idle.new.world.post c.args.one first gone lent run awaits
    (c.in-Ok-come_idle.ensures.journal ∙ ap (λ (s : CodeState). s.journal) (c.in-Err.ensures.same []))
