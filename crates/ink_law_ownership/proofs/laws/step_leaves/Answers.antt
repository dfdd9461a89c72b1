use Rattle.ink_law_ownership.proofs.Steps.{step-leaves}
use Rattle.ink_law_ownership.proofs.laws.step_leaves.Goals as goal

pub returns : goal.returns
returns c = step-leaves
