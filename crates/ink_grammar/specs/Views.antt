-- What a builder and a module show.
use Rattle.std.specs.Prelude.{◌≡◌, ◌≤◌, ℕ, List, Option, Some, None}
use Rattle.std.specs.List.{AllByRecursion}
use Rattle.ink_grammar.specs.declared.builder.Builder.{Builder}
use Rattle.ink_grammar.specs.declared.tree.Module.{Module}
use Rattle.ink_grammar.specs.declared.tree.Node.{Node}
use Rattle.ink_grammar.specs.Tree.{Tree, Missing, Found}
use Rattle.ink_grammar.specs.Built.{at, trees, grow, children, found_of}

-- what was found, the last first
abbrev pub found : Builder → List Found
found b = found_of (trees b.nodes.items) b.values.items

-- the trees of the nodes so far
abbrev pub trees_in : Builder → List Tree
trees_in b = trees b.nodes.items

-- the tree of this number in a module, or nothing
abbrev pub tree_at : Module → ℕ → Tree
tree_at m number = at (trees m.nodes.items) number

-- the tree of a module
abbrev pub tree : Module → Tree
tree m = tree_at m m.root

-- the tree of a node of a module: its form over the trees of its children
abbrev pub tree_of : Module → Option Node → Tree
tree_of m None = Missing
tree_of m (Some node) = grow (trees m.nodes.items) node

-- the children of the node of this number: each is of a smaller number or nothing
abbrev pub AreBefore : Module → ℕ → Option Node → Type 0
AreBefore m number None = Unit {0}
AreBefore m number (Some node) = AllByRecursion (λ child. number ≤ child → tree_at m child ≡ Missing) (children node)
