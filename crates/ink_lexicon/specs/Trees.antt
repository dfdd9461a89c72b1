-- What a parent sees of a tree of the grammar.
use Rattle.std.specs.Prelude.{ℕ, List, [], ◌∷◌, ◌++◌, Bool, true, false}
use Rattle.ink_grammar.specs.declared.token.Shape.TheVariants as shape
use Rattle.ink_grammar.specs.declared.token.Terminal.{Terminal}
use Rattle.ink_grammar.specs.declared.tree.TwoChildren.TheVariants as two_of
use Rattle.ink_grammar.specs.Tree.{Tree, Missing, Leaf, Empty, One, Two, Three, Four, Five}

-- a token of no source
abbrev pub no_token : Terminal
no_token = record { shape = shape.Name; start = 0; end = 0; new_line = false }

-- the token that a tree is; of a constructor behind its enum the constructor's
abbrev pub token_of : Tree → Terminal
token_of (Leaf token) = token
token_of _ = no_token

-- where a tree begins
abbrev pub start_of : Tree → ℕ
start_of Missing = 0
start_of (Leaf token) = token.start
start_of Empty = 0
start_of (One form start a) = start
start_of (Two form start a b) = start
start_of (Three form start a b c) = start
start_of (Four form start a b c d) = start
start_of (Five form start a b c d e) = start

-- the items of a list, in order
abbrev pub items_of : Tree → List Tree
items_of (Two two_of.More start list item) = items_of list ++ item ∷ []
items_of _ = []

-- the alternatives of a pattern, in order
abbrev pub alternatives_of : Tree → List Tree
alternatives_of (Two two_of.Either start a b) = alternatives_of a ++ b ∷ []
alternatives_of tree = tree ∷ []

-- whether anything is written
abbrev pub is_written : Tree → Bool
is_written Missing = false
is_written _ = true
