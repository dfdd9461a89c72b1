use Rattle.std.proofs.Common.{sym, subst}
use Rattle.ink_post.specs.Answers.{MakesBy, with_line}
use Rattle.ink_post.specs.Worlds.{world_of}
use Rattle.ink_post.proofs.post.Post.make.Goals as goal
use Rattle.ink_proc.specs.State.{state_of}
use Rattle.ink_steps.specs.Answers.{action_of}
use Rattle.ink_steps.specs.declared.stepped.Request.{Request}

pub returns-in-Print-clause-makes : goal.returns-in-Print-clause-makes
returns-in-Print-clause-makes c output =
    subst (λ (wish : Request). MakesBy c.args.code.now c.args.self.now.limits (action_of wish) c.args.process (state_of c.args.proc) (world_of c.args.self.now output) (world_of c.make_print.new.self (with_line c.make_print.result output)) c.make_print.result) (sym c.in-Print.is) (c.make_print.ensures.makes output)

pub returns-in-SetFuture-clause-makes : goal.returns-in-SetFuture-clause-makes
returns-in-SetFuture-clause-makes c output =
    subst (λ (wish : Request). MakesBy c.args.code.now c.args.self.now.limits (action_of wish) c.args.process (state_of c.args.proc) (world_of c.args.self.now output) (world_of c.make_set.new.self (with_line c.make_set.result output)) c.make_set.result) (sym c.in-SetFuture.is) (c.make_set.ensures.makes output)

pub returns-in-BreakFuture-clause-makes : goal.returns-in-BreakFuture-clause-makes
returns-in-BreakFuture-clause-makes c output =
    subst (λ (wish : Request). MakesBy c.args.code.now c.args.self.now.limits (action_of wish) c.args.process (state_of c.args.proc) (world_of c.args.self.now output) (world_of c.make_break.new.self (with_line c.make_break.result output)) c.make_break.result) (sym c.in-BreakFuture.is) (c.make_break.ensures.makes output)
