use Rattle.std.proofs.Common.{◌∙◌}
use Rattle.ink_post.proofs.TurningLemmas.{lends_rests, looks_as, looks_fails, looks_on, looks_tells, memory_faults, same_rests}
use Rattle.ink_post.proofs.post.Post.look.Goals as goal
use Rattle.ink_proc.specs.State.{state_of}

pub look_on-requires-clause-goes : goal.look_on-requires-clause-goes
look_on-requires-clause-goes c = (lends_rests c.args.code.now c.args.process c.args.process c.args.self.now c.check_out.new.self (state_of c.in-Ok.proc) c.check_out.ensures.limits c.in-Ok.ensures.lends).halt ∙ c.requires.goes

pub returns-in-Err-clause-entries : goal.returns-in-Err-clause-entries
returns-in-Err-clause-entries c = (same_rests c.args.code.now c.args.self.now c.check_out.new.self c.check_out.ensures.limits c.in-Err.ensures.same).entries

pub returns-in-Err-clause-fails : goal.returns-in-Err-clause-fails
returns-in-Err-clause-fails c = same_rests c.args.code.now c.args.self.now c.check_out.new.self c.check_out.ensures.limits c.in-Err.ensures.same

pub returns-in-Ok-clause-sees : goal.returns-in-Ok-clause-sees
returns-in-Ok-clause-sees c = looks_as c.args.code.now c.args.process (state_of c.in-Ok.proc) c.args.self.now c.check_out.new.self c.look_on.new.self c.check_out.ensures.limits c.in-Ok.ensures.lends c.look_on.result c.look_on.ensures.sees

pub returns-in-Ok-clause-looks : goal.returns-in-Ok-clause-looks
returns-in-Ok-clause-looks c = looks_on c.args.code.now c.args.process (state_of c.in-Ok.proc) c.args.self.now c.check_out.new.self c.look_on.new.self c.check_out.ensures.limits c.in-Ok.ensures.lends c.look_on.result c.look_on.ensures.looks

pub returns-in-Ok-clause-entries : goal.returns-in-Ok-clause-entries
returns-in-Ok-clause-entries c = c.look_on.ensures.entries ∙ (lends_rests c.args.code.now c.args.process c.args.process c.args.self.now c.check_out.new.self (state_of c.in-Ok.proc) c.check_out.ensures.limits c.in-Ok.ensures.lends).entries

pub returns-in-Ok-clause-fails : goal.returns-in-Ok-clause-fails
returns-in-Ok-clause-fails c = looks_fails c.args.code.now c.args.process (state_of c.in-Ok.proc) c.args.self.now c.check_out.new.self c.look_on.new.self c.check_out.ensures.limits c.in-Ok.ensures.lends c.look_on.result c.look_on.ensures.fails

pub returns-in-Ok-clause-faults : goal.returns-in-Ok-clause-faults
returns-in-Ok-clause-faults c = memory_faults c.args.process c.args.process (state_of c.in-Ok.proc) c.args.self.now c.check_out.new.self c.look_on.result c.in-Ok.ensures.lends c.look_on.ensures.memory

pub returns-in-Ok-clause-tells : goal.returns-in-Ok-clause-tells
returns-in-Ok-clause-tells c = looks_tells c.args.code.now c.args.process (state_of c.in-Ok.proc) c.args.self.now c.check_out.new.self c.look_on.new.self c.check_out.ensures.limits c.in-Ok.ensures.lends c.look_on.result c.look_on.ensures.tells
