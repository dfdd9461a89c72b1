use Rattle.ink_law_ownership.proofs.Worlds.{steps-counted}
use Rattle.ink_law_ownership.proofs.laws.steps_are_counted.Goals as goal

pub returns : goal.returns
returns c = steps-counted
