use Rattle.std.proofs.Common.{◌∙◌, ap}
use Rattle.ink_leased.proofs.Answering.{comes_in}
use Rattle.ink_leased.proofs.home.give_up.Goals as goal
use Rattle.ink_post.specs.declared.answer.Came.TheVariants as came
use Rattle.ink_proc.specs.State.{state_of}
use Rattle.ink_run.specs.Sinks.{sink_of}
use Rattle.ink_run.specs.Written.{wrong_after}

pub returns : goal.returns
returns g c =
    comes_in c.args.code.now c.args.process came.GivesUp (state_of c.args.proc) c.args.world.now.post c.check_in.new.self.post
    (sink_of g.K.Sink.contents g.K.Sink.faults c.args.world.now.sink) (sink_of g.K.Sink.contents g.K.Sink.faults c.check_in.new.self.sink)
    c.in-Ok.applied c.is_over.result c.is_over.ensures c.requires.goes c.requires.right c.check_in.ensures.limits c.in-Ok.ensures.checks
    (c.check_in.ensures.wrong ∙ ap (λ r. wrong_after r c.args.process c.args.world.now.post.wrong) c.in-Ok.is)
    c.in-Ok.ensures.stands c.in-Ok.ensures.written c.in-Ok.ensures.tells
