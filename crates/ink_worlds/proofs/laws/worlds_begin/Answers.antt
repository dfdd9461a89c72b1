use Rattle.ink_worlds.proofs.Stands.{world_begins}
use Rattle.ink_worlds.proofs.laws.worlds_begin.Goals as goal

pub returns : goal.returns
returns c s m limits first = world_begins m limits first
