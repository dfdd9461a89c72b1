use Rattle.ink_law_ownership.proofs.CutTree.{cut_is_tree}
use Rattle.ink_law_ownership.proofs.laws.cuts_are_trees.Goals as goal

pub returns : goal.returns
returns c = cut_is_tree
