use Rattle.ink_post.proofs.TurningLemmas.{acts_adds, acts_as, acts_fails, acts_stays, acts_tells, memory_faults, same_rests}
use Rattle.ink_post.proofs.post.Post.act.Goals as goal
use Rattle.ink_proc.specs.State.{state_of}

pub returns-in-Err-clause-fails : goal.returns-in-Err-clause-fails
returns-in-Err-clause-fails c = same_rests c.args.code.now c.args.self.now c.check_out.new.self c.check_out.ensures.limits c.in-Err.ensures.same

pub returns-in-Ok-clause-acts : goal.returns-in-Ok-clause-acts
returns-in-Ok-clause-acts c = acts_as c.args.code.now c.args.process (state_of c.in-Ok.proc) c.args.self.now c.check_out.new.self c.go_on.new.self c.check_out.ensures.limits c.in-Ok.ensures.lends c.go_on.result c.go_on.ensures.goes

pub returns-in-Ok-clause-stays : goal.returns-in-Ok-clause-stays
returns-in-Ok-clause-stays c = acts_stays c.args.code.now c.args.process (state_of c.in-Ok.proc) c.args.self.now c.check_out.new.self c.go_on.new.self c.check_out.ensures.limits c.in-Ok.ensures.lends c.go_on.result c.go_on.ensures.goes

pub returns-in-Ok-clause-adds : goal.returns-in-Ok-clause-adds
returns-in-Ok-clause-adds c = acts_adds c.args.code.now c.args.process (state_of c.in-Ok.proc) c.args.self.now c.check_out.new.self c.go_on.new.self c.check_out.ensures.limits c.in-Ok.ensures.lends c.go_on.result c.go_on.ensures.goes

pub returns-in-Ok-clause-fails : goal.returns-in-Ok-clause-fails
returns-in-Ok-clause-fails c = acts_fails c.args.code.now c.args.process (state_of c.in-Ok.proc) c.args.self.now c.check_out.new.self c.go_on.new.self c.check_out.ensures.limits c.in-Ok.ensures.lends c.go_on.result c.go_on.ensures.fails

pub returns-in-Ok-clause-faults : goal.returns-in-Ok-clause-faults
returns-in-Ok-clause-faults c = memory_faults c.args.process c.args.process (state_of c.in-Ok.proc) c.args.self.now c.check_out.new.self c.go_on.result c.in-Ok.ensures.lends c.go_on.ensures.memory

pub returns-in-Ok-clause-tells : goal.returns-in-Ok-clause-tells
returns-in-Ok-clause-tells c = acts_tells c.args.code.now c.args.process (state_of c.in-Ok.proc) c.args.self.now c.check_out.new.self c.go_on.new.self c.check_out.ensures.limits c.in-Ok.ensures.lends c.go_on.result c.go_on.ensures.tells
