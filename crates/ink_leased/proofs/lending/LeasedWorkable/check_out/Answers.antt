use Rattle.std.proofs.Common.{◌∙◌, List, ℕ, refl, subst}
use Rattle.std.specs.Prelude.{IfSome}
use Rattle.ink_leased.proofs.Working.{goes, leased_on}
use Rattle.ink_leased.proofs.lending.LeasedWorkable.check_out.Goals as goal
use Rattle.ink_post.specs.Asks.{ComesOn}
use Rattle.ink_proc.specs.State.{state_of}
use Rattle.ink_run.specs.Sinks.{sink_of}

pub returns-clause-stands : goal.returns-clause-stands
returns-clause-stands g c = λ began is.
    let seen = sink_of g.K.Sink.contents g.K.Sink.faults in
    leased_on seen c.args.self.now began _ refl is
    (c.lend.ensures.stands began.code.value began.world.value.post (seen began.world.value.sink) c.args.self.now.is_over)

pub returns-clause-run : goal.returns-clause-run
returns-clause-run g c = λ began is.
    let seen = sink_of g.K.Sink.contents g.K.Sink.faults in
    subst (λ (l : List ℕ). IfSome c.lend.result (λ away. ComesOn began.code.value l c.lend.new.world.post.journal.entries c.args.process away.came (state_of away.proc)))
    (c.lend.ensures.limits ∙ is.stands.limits)
    (c.lend.ensures.run began.code.value (is.stands.stands (goes seen c.args.self.now began is c.if-self.false).1))
