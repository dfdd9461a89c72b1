use Rattle.std.proofs.Common.{refl}
use Rattle.ink_run.proofs.ActsLemmas.{acts_stand, acts_written, rests_stands, rests_written, writes_add}
use Rattle.ink_run.proofs.WrongLemmas.{writes_tell, writes_wrong}
use Rattle.ink_run.proofs.world.World.act.Goals as goal

pub returns-in-Err-clause-fails : goal.returns-in-Err-clause-fails
returns-in-Err-clause-fails g c = rests_stands c.args.code.now c.args.self.now.post c.act.new.self c.in-Err.ensures.fails c.requires

pub returns-in-Err-clause-still : goal.returns-in-Err-clause-still
returns-in-Err-clause-still g c = rests_written c.args.code.now c.args.self.now.post c.act.new.self _ _ c.in-Err.ensures.fails c.act.ensures.limits refl

pub returns-in-Ok-clause-acts : goal.returns-in-Ok-clause-acts
returns-in-Ok-clause-acts g c = record { answer = c.in-Ok.answer; middle = c.act.new.self; acts = c.in-Ok.ensures.acts; writes = c.written.ensures }

pub returns-in-Ok-clause-stands : goal.returns-in-Ok-clause-stands
returns-in-Ok-clause-stands g c = acts_stand c.args.code.now c.args.process c.args.self.now.post c.act.new.self _ _ _ c.in-Ok.answer c.written.result c.in-Ok.ensures.acts c.written.ensures c.act.ensures.limits c.requires

pub returns-in-Ok-clause-written : goal.returns-in-Ok-clause-written
returns-in-Ok-clause-written g c = acts_written c.args.code.now c.args.process c.args.self.now.post c.act.new.self _ _ _ c.in-Ok.answer c.written.result c.in-Ok.ensures.acts c.written.ensures c.act.ensures.limits

pub returns-in-Ok-clause-adds : goal.returns-in-Ok-clause-adds
returns-in-Ok-clause-adds g c = writes_add c.args.process c.in-Ok.answer c.args.self.now.post c.act.new.self _ _ _ c.written.result c.in-Ok.ensures.adds c.written.ensures

pub returns-in-Ok-clause-wrong : goal.returns-in-Ok-clause-wrong
returns-in-Ok-clause-wrong g c =
    writes_wrong c.args.process c.args.self.now.post.wrong c.act.new.self c.written.new.self.post _ _ c.in-Ok.answer c.written.result c.in-Ok.ensures.wrong c.written.ensures

pub returns-in-Ok-clause-tells : goal.returns-in-Ok-clause-tells
returns-in-Ok-clause-tells g c =
    writes_tell c.args.process c.args.self.now.post.wrong c.act.new.self c.written.new.self.post _ _ c.args.code.now c.args.self.now.post c.in-Ok.answer c.written.result c.in-Ok.ensures.tells c.written.ensures
