use Rattle.ink_post.proofs.StandingLemmas.{lends_others, lends_stands, lent_is, same_others, same_stands}
use Rattle.ink_post.proofs.post.Post.check_out.Goals as goal
use Rattle.ink_proc.specs.State.{state_of}

pub returns-in-Ok-clause-lent : goal.returns-in-Ok-clause-lent
returns-in-Ok-clause-lent c code stands = lent_is code c.args.process c.args.seat c.args.self.now c.take_out.new.self (state_of c.in-Ok.proc) c.take_out.ensures.limits c.in-Ok.ensures.lends stands

pub returns-in-Ok-clause-stands : goal.returns-in-Ok-clause-stands
returns-in-Ok-clause-stands c code stands = lends_stands code c.args.process c.args.seat c.args.self.now c.take_out.new.self (state_of c.in-Ok.proc) c.take_out.ensures.limits c.in-Ok.ensures.lends stands

pub returns-in-Ok-clause-others : goal.returns-in-Ok-clause-others
returns-in-Ok-clause-others c code = lends_others code c.args.process c.args.seat c.args.self.now c.take_out.new.self (state_of c.in-Ok.proc) c.take_out.ensures.limits c.in-Ok.ensures.lends

pub returns-in-Err-clause-stands : goal.returns-in-Err-clause-stands
returns-in-Err-clause-stands c code stands = same_stands code c.args.self.now c.take_out.new.self c.in-Err.ensures.same c.take_out.ensures.limits stands

pub returns-in-Err-clause-others : goal.returns-in-Err-clause-others
returns-in-Err-clause-others c code = same_others code c.args.process c.args.self.now c.take_out.new.self c.take_out.ensures.limits c.in-Err.ensures.same
