use Rattle.std.proofs.Common.{◌∙◌, ap, []}
use Rattle.ink_leased.proofs.Answering.{comes_behind, comes_in}
use Rattle.ink_leased.proofs.Lent.{same_keeps}
use Rattle.ink_leased.proofs.home.bring_home.Goals as goal
use Rattle.ink_post.specs.Worlds.{CodeState}
use Rattle.ink_proc.specs.State.{state_of}
use Rattle.ink_run.specs.Sinks.{sink_of}
use Rattle.ink_run.specs.Written.{wrong_after}

pub returns-in-Ok : goal.returns-in-Ok
returns-in-Ok g c =
    comes_in c.args.code.now c.args.process c.args.away.came (state_of c.args.away.proc) c.args.world.now.post c.check_in.new.self.post
    (sink_of g.K.Sink.contents g.K.Sink.faults c.args.world.now.sink) (sink_of g.K.Sink.contents g.K.Sink.faults c.check_in.new.self.sink)
    c.in-Ok.applied c.is_over.result c.is_over.ensures c.requires.goes c.requires.right c.check_in.ensures.limits c.in-Ok.ensures.checks
    (c.check_in.ensures.wrong ∙ ap (λ r. wrong_after r c.args.process c.args.world.now.post.wrong) c.in-Ok.is)
    c.in-Ok.ensures.stands c.in-Ok.ensures.written c.in-Ok.ensures.tells

pub give_up-requires-clause-goes : goal.give_up-requires-clause-goes
give_up-requires-clause-goes g c = ap (λ (s : CodeState). s.halt) (c.in-Err.ensures.same []) ∙ c.requires.goes

pub give_up-requires-clause-right : goal.give_up-requires-clause-right
give_up-requires-clause-right g c = c.check_in.ensures.wrong ∙ (ap (λ r. wrong_after r c.args.process c.args.world.now.post.wrong) c.in-Err.is ∙ c.requires.right)

pub returns : goal.returns
returns g c =
    let before = sink_of g.K.Sink.contents g.K.Sink.faults c.args.world.now.sink in
    let between = sink_of g.K.Sink.contents g.K.Sink.faults c.check_in.new.self.sink in
    let after = sink_of g.K.Sink.contents g.K.Sink.faults c.give_up.new.world.sink in
    let keeps = same_keeps c.args.world.now.post c.check_in.new.self.post before between c.check_in.ensures.limits
    (c.check_in.ensures.wrong ∙ ap (λ r. wrong_after r c.args.process c.args.world.now.post.wrong) c.in-Err.is)
    (ap (sink_of g.K.Sink.contents g.K.Sink.faults) c.in-Err.ensures.sink) c.args.code.now c.in-Err.ensures.same in
    comes_behind c.args.code.now c.args.process c.args.world.now.post c.check_in.new.self.post c.give_up.new.world.post before between after
    c.in-Err.ensures.same keeps c.give_up.result.is_over c.give_up.ensures
