use Rattle.ink_replay.proofs.RestLemmas.{behind_found}
use Rattle.ink_replay.proofs.rest.stop_behind.Goals as goal

pub returns-in-Ok-Some-clause-behind : goal.returns-in-Ok-Some-clause-behind
returns-in-Ok-Some-clause-behind g c =
    behind_found c.args.code.now c.args.world.now.post c.first_stop.new.world.post c.in-Ok-Some.stop _ _ c.requires.right (rw c.in-Ok-Some.field-0-is at c.in-Ok-Some.ensures.finds)
