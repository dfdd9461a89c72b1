use Rattle.ink_law_ownership.proofs.Spawned.{spawn-starts}
use Rattle.ink_law_ownership.proofs.laws.spawns_start.Goals as goal

pub returns : goal.returns
returns c = spawn-starts
