use Rattle.ink_law_worlds.proofs.Home.{world_ahead}
use Rattle.ink_law_worlds.proofs.laws.worlds_are_ahead.Goals as goal

pub returns : goal.returns
returns c = world_ahead
