use Rattle.std.proofs.Common.{◌∙◌}
use Rattle.ink_post.proofs.TurningLemmas.{went_rests, went_wrong}
use Rattle.ink_post.proofs.post.Post.come_again.Goals as goal
use Rattle.ink_proc.specs.State.{state_of}

pub returns-clause-rests : goal.returns-clause-rests
returns-clause-rests c = went_rests c.args.code.now c.args.process (state_of c.args.proc) c.args.self.now c.check_in.new.self c.in-Ok.field-0 c.in-Ok.ensures.checks c.in-Ok.ensures.stays

pub returns-clause-wrong : goal.returns-clause-wrong
returns-clause-wrong c = c.in-Ok.ensures.wrong ∙ went_wrong c.args.code.now c.args.process (state_of c.args.proc) c.args.self.now c.check_in.new.self c.in-Ok.field-0 c.args.self.now.wrong c.in-Ok.ensures.checks
