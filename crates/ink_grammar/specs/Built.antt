-- The trees of a list of nodes, in which each node comes after its children.
use Rattle.std.specs.Prelude.{◌≡◌, ◌≤◌, ℕ, List, [], ◌∷◌, ◌++◌, All, length, map, reverse, Some, slice_get, slice_index_or}
use Rattle.std.specs.List.{AllByRecursion}
use Rattle.ink_grammar.specs.declared.tree.Node.{Node}
use Rattle.ink_grammar.specs.declared.tree.Node.TheVariants as n
use Rattle.ink_grammar.specs.declared.builder.Value.{Value}
use Rattle.ink_grammar.specs.Tree.{Tree, Missing, Leaf, Empty, One, Two, Three, Four, Five, Found, no_node}

-- the tree of this number, or nothing
abbrev pub at : List Tree → ℕ → Tree
at ts i = slice_index_or ts i Missing

-- the tree of a node over the trees before it
abbrev pub grow : List Tree → Node → Tree
grow ts (n.Leaf t) = Leaf t
grow ts n.Empty = Empty
grow ts (n.One form s a) = One form s (at ts a)
grow ts (n.Two form s a b) = Two form s (at ts a) (at ts b)
grow ts (n.Three form s a b c) = Three form s (at ts a) (at ts b) (at ts c)
grow ts (n.Four form s a b c d) = Four form s (at ts a) (at ts b) (at ts c) (at ts d)
grow ts (n.Five form s a b c d e) = Five form s (at ts a) (at ts b) (at ts c) (at ts d) (at ts e)

-- the trees of more nodes behind those that are known
abbrev pub onto : List Tree → List Node → List Tree
onto ts [] = ts
onto ts (x ∷ xs) = onto (ts ++ grow ts x ∷ []) xs

-- the tree of each node
unfoldable pub trees : List Node → List Tree
trees ns = onto [] ns

-- the numbers of a node's children
abbrev pub children : Node → List ℕ
children (n.Leaf t) = []
children n.Empty = []
children (n.One form s a) = a ∷ []
children (n.Two form s a b) = a ∷ (b ∷ [])
children (n.Three form s a b c) = a ∷ (b ∷ (c ∷ []))
children (n.Four form s a b c d) = a ∷ (b ∷ (c ∷ (d ∷ [])))
children (n.Five form s a b c d e) = a ∷ (b ∷ (c ∷ (d ∷ (e ∷ []))))

-- of so many nodes, each child of this one is one or nothing
abbrev pub AreKnown : ℕ → Node → Type 0
AreKnown count node = AllByRecursion (λ child. count ≤ child → child ≡ no_node) (children node)

-- each node comes after its children, and all can be numbered
pub record IsPostorder (nodes : List Node) : Type 0 where
  pub few : length nodes ≤ no_node
  pub behind : (number : ℕ) (node : Node) → slice_get nodes number ≡ Some node → All (λ child. number ≤ child → child ≡ no_node) (children node)

-- a value with the tree of its node
abbrev pub found_at : List Tree → Value → Found
found_at ts v = record { tree = at ts v.node; start = v.start; is_place = v.is_place }

-- what was found, the last first
unfoldable pub found_of : List Tree → List Value → List Found
found_of ts vs = reverse (map (λ v. found_at ts v) vs)
