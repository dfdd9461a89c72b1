use Rattle.ink_law_ownership.proofs.Turned.{turn_apart}
use Rattle.ink_law_ownership.proofs.laws.turn_keeps_apart.Goals as goal

pub returns : goal.returns
returns c = turn_apart
