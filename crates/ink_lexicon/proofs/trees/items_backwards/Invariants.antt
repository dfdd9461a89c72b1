use Rattle.std.proofs.Common.{◌≡◌, ◌++◌, map, reverse}
use Rattle.ink_grammar.specs.Views.{tree_at}
use Rattle.ink_lexicon.specs.Trees.{items_of}
use Rattle.ink_lexicon.proofs.trees.items_backwards.Given as goal

-- what is left, and the items behind it
abbrev pub invariant-loop : goal.invariant-loop
invariant-loop l = items_of (tree_at l.parsed l.rest) ++ map (tree_at l.parsed) (reverse l.items.items) ≡ items_of (tree_at l.parsed l.list)
