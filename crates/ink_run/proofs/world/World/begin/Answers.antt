use Rattle.ink_run.proofs.Begins.{begins_written}
use Rattle.ink_run.proofs.world.World.begin.Goals as goal

pub returns-in-Ok-clause-written : goal.returns-in-Ok-clause-written
returns-in-Ok-clause-written g c = begins_written c.args.code.now c.in-Ok.post _ c.in-Ok.ensures.begins
