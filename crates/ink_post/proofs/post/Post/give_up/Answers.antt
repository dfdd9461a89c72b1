use Rattle.std.proofs.Common.{◌∙◌}
use Rattle.ink_post.proofs.TurningLemmas.{given_rests, given_wrong}
use Rattle.ink_post.proofs.post.Post.give_up.Goals as goal
use Rattle.ink_proc.specs.State.{state_of}

pub returns-clause-rests : goal.returns-clause-rests
returns-clause-rests c = given_rests c.args.code.now c.args.process (state_of c.args.proc) c.args.self.now c.check_in.new.self c.in-Ok.field-0 c.in-Ok.ensures.checks c.in-Ok.ensures.stays

pub returns-clause-wrong : goal.returns-clause-wrong
returns-clause-wrong c = c.in-Ok.ensures.wrong ∙ given_wrong c.args.code.now c.args.process (state_of c.args.proc) c.args.self.now c.check_in.new.self c.in-Ok.field-0 c.args.self.now.wrong c.in-Ok.ensures.checks
