use Rattle.ink_proc.specs.State.{state_of}
use Rattle.ink_run.proofs.Stays.{same_written, stands_written, stays_written}
use Rattle.ink_run.proofs.WrongLemmas.{writes_tell, writes_wrong}
use Rattle.ink_run.proofs.world.World.check_in.Goals as goal

pub returns-in-Err-clause-same : goal.returns-in-Err-clause-same
returns-in-Err-clause-same g c = c.in-Err.ensures.checks.0.0

pub returns-in-Err-clause-still : goal.returns-in-Err-clause-still
returns-in-Err-clause-still g c = same_written c.args.code.now c.args.self.now.post c.check_in.new.self _ c.in-Err.ensures.checks.0.0 c.check_in.ensures.limits

pub returns-in-Ok-clause-written : goal.returns-in-Ok-clause-written
returns-in-Ok-clause-written g c =
    stays_written c.args.code.now c.args.process c.args.came (state_of c.args.proc) c.args.self.now.post c.check_in.new.self c.check_in.ensures.limits _ _ c.in-Ok.answer c.written.new.self.post c.written.result c.in-Ok.ensures.stays c.in-Ok.ensures.checks c.written.ensures

pub returns-in-Ok-clause-stands : goal.returns-in-Ok-clause-stands
returns-in-Ok-clause-stands g c =
    stands_written c.args.code.now c.args.process c.args.came (state_of c.args.proc) c.args.self.now.post c.check_in.new.self c.check_in.ensures.limits _ _ c.in-Ok.answer c.written.new.self.post c.written.result c.in-Ok.ensures.stands c.in-Ok.ensures.checks c.written.ensures

pub returns-in-Ok-clause-wrong : goal.returns-in-Ok-clause-wrong
returns-in-Ok-clause-wrong g c =
    writes_wrong c.args.process c.args.self.now.post.wrong c.check_in.new.self c.written.new.self.post _ _ c.in-Ok.answer c.written.result c.in-Ok.ensures.wrong c.written.ensures

pub returns-in-Ok-clause-tells : goal.returns-in-Ok-clause-tells
returns-in-Ok-clause-tells g c =
    writes_tell c.args.process c.args.self.now.post.wrong c.check_in.new.self c.written.new.self.post _ _ c.args.code.now c.args.self.now.post c.in-Ok.answer c.written.result c.in-Ok.ensures.tells c.written.ensures
