use Rattle.ink_commands.proofs.Written.{unmade_replays}
use Rattle.ink_commands.proofs.running.go_on.Goals as goal

pub returns-in-Err-OutOfMemory-clause-wrote : goal.returns-in-Err-OutOfMemory-clause-wrote
returns-in-Err-OutOfMemory-clause-wrote g c =
    unmade_replays c.args.code.now c.args.world.now.post c.act.new.self.post _ _ c.in-Err-OutOfMemory.ensures.goes c.in-Err-OutOfMemory.ensures.still
