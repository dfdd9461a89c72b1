-- What is known of a node among those before it.
use Rattle.std.specs.Prelude.{ℕ, List, slice_index_or}
use Rattle.ink_grammar.specs.declared.tree.Node.{Node}
use Rattle.ink_grammar.specs.declared.tree.Node.TheVariants as n
use Rattle.ink_heights.specs.declared.measure.Measure.{Measure}
use Rattle.ink_heights.specs.Measures.{nothing, leaf, two, three, four, five}

-- what is known of the node of this number, and of nothing where there is none
abbrev pub at : List Measure → ℕ → Measure
at known number = slice_index_or known number nothing

-- what is known of a node over those that are known
unfoldable pub measured : ℕ → List Measure → Node → Measure
measured most known (n.Leaf token) = leaf token.shape
measured most known n.Empty = nothing
measured most known (n.One form start a) = at known a
measured most known (n.Two form start a b) = two most form start (at known a) (at known b)
measured most known (n.Three form start a b c) = three most form start (at known a) (at known b) (at known c)
measured most known (n.Four form start a b c d) = four most form start (at known b) (at known c) (at known d)
measured most known (n.Five form start a b c d e) = five form (at known d) (at known e)
