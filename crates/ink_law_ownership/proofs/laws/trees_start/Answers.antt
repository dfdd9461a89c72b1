use Rattle.ink_law_ownership.proofs.CutTree.{tree_starts}
use Rattle.ink_law_ownership.proofs.laws.trees_start.Goals as goal

pub returns : goal.returns
returns c = tree_starts
