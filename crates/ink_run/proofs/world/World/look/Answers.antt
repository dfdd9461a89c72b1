use Rattle.std.proofs.Common.{refl, ◌∙◌}
use Rattle.ink_run.proofs.ActsLemmas.{look_stands, look_written, rests_stands, rests_written}
use Rattle.ink_run.proofs.world.World.look.Goals as goal

pub returns-in-Ok-clause-looks : goal.returns-in-Ok-clause-looks
returns-in-Ok-clause-looks g c = look_stands c.args.code.now c.args.process c.args.self.now.post c.look.new.self c.in-Ok.looked c.requires.stands c.requires.goes c.in-Ok.ensures.looks

pub returns-in-Ok-clause-written : goal.returns-in-Ok-clause-written
returns-in-Ok-clause-written g c = look_written c.args.code.now c.args.process c.args.self.now.post c.look.new.self _ _ c.in-Ok.looked c.requires.goes c.look.ensures.limits refl c.in-Ok.ensures.looks

pub returns-in-Err-clause-fails : goal.returns-in-Err-clause-fails
returns-in-Err-clause-fails g c = (rests_stands c.args.code.now c.args.self.now.post c.look.new.self c.in-Err.ensures.fails c.requires.stands, c.in-Err.ensures.fails.halt ∙ c.requires.goes)

pub returns-in-Err-clause-still : goal.returns-in-Err-clause-still
returns-in-Err-clause-still g c = rests_written c.args.code.now c.args.self.now.post c.look.new.self _ _ c.in-Err.ensures.fails c.look.ensures.limits refl
