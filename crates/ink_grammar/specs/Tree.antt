-- What a module is, as a tree, and what the parser's actions make.
use Rattle.std.specs.Prelude.{ℕ, Bool, true, false, List, [], ◌∷◌}
use Rattle.ink_grammar.specs.declared.token.Shape.{Shape}
use Rattle.ink_grammar.specs.declared.token.Shape.TheVariants as shape
use Rattle.ink_grammar.specs.declared.token.Terminal.{Terminal}
use Rattle.ink_grammar.specs.declared.symbol.Wanted.{Wanted}
use Rattle.ink_grammar.specs.declared.symbol.Wanted.TheVariants as wanted
use Rattle.ink_grammar.specs.declared.symbol.Action.{Action}
use Rattle.ink_grammar.specs.declared.symbol.Action.TheVariants as act_of
use Rattle.ink_grammar.specs.declared.tree.OneChild.{OneChild}
use Rattle.ink_grammar.specs.declared.tree.TwoChildren.{TwoChildren}
use Rattle.ink_grammar.specs.declared.tree.TwoChildren.TheVariants as two_of
use Rattle.ink_grammar.specs.declared.tree.ThreeChildren.{ThreeChildren}
use Rattle.ink_grammar.specs.declared.tree.FourChildren.{FourChildren}
use Rattle.ink_grammar.specs.declared.tree.FiveChildren.{FiveChildren}

-- Nothing, a token, a list without items, or a node that begins at a byte and has children.
pub data Tree : Type 0 where
  Missing : Tree
  Leaf : Terminal → Tree
  Empty : Tree
  One : OneChild → ℕ → Tree → Tree
  Two : TwoChildren → ℕ → Tree → Tree → Tree
  Three : ThreeChildren → ℕ → Tree → Tree → Tree → Tree
  Four : FourChildren → ℕ → Tree → Tree → Tree → Tree → Tree
  Five : FiveChildren → ℕ → Tree → Tree → Tree → Tree → Tree → Tree

-- a value that was read: its tree, where it begins with the parentheses round it, and whether it is a place
pub record Found : Type 0 where
  pub tree : Tree
  pub start : ℕ
  pub is_place : Bool

-- a value that is no place
abbrev pub value : Tree → ℕ → Found
value t s = record { tree = t; start = s; is_place = false }

-- the tree of the last value
abbrev pub first : List Found → Tree
first [] = Missing
first (v ∷ vs) = v.tree

-- where the last value begins
abbrev pub start : List Found → ℕ
start [] = 0
start (v ∷ vs) = v.start

-- the values before the last
abbrev pub rest : List Found → List Found
rest [] = []
rest (v ∷ vs) = vs

-- whether the last value is a place
abbrev pub is_place : List Found → Bool
is_place [] = false
is_place (v ∷ vs) = v.is_place

-- a name and a field are places
abbrev pub is_place_word : Shape → Bool
is_place_word shape.Name = true
is_place_word shape.Field = true
is_place_word _ = false

-- a member without arguments is a place
abbrev pub is_place_form : TwoChildren → Bool
is_place_form two_of.Member = true
is_place_form _ = false

-- what is kept of a token
abbrev pub keep : Wanted → Terminal → List Found → List Found
keep (wanted.Mark s) t vs = vs
keep _ t vs = record { tree = Leaf t; start = t.start; is_place = is_place_word t.shape } ∷ vs

-- what a token that is kept says
abbrev pub leaf : Terminal → Found
leaf t = record { tree = Leaf t; start = t.start; is_place = is_place_word t.shape }

-- a list without items
abbrev pub no_items : Found
no_items = value Empty 0

-- nothing, where something is left out
abbrev pub nothing : Found
nothing = value Missing 0

-- a value in parentheses begins at the first of them, and is no place
abbrev pub in_parentheses : Found → Found → Found
in_parentheses opening inner = value inner.tree opening.start

-- a node of one value, which begins where the first does
abbrev pub node_one : OneChild → Found → Found
node_one form a = value (One form a.start a.tree) a.start

-- a node of two values, which begins where the first does
abbrev pub node_two : TwoChildren → Found → Found → Found
node_two form a b = record { tree = Two form a.start a.tree b.tree; start = a.start; is_place = is_place_form form }

-- a node of three values, which begins where the first does
abbrev pub node_three : ThreeChildren → Found → Found → Found → Found
node_three form a b c = value (Three form a.start a.tree b.tree c.tree) a.start

-- a node of four values, which begins where the first does
abbrev pub node_four : FourChildren → Found → Found → Found → Found → Found
node_four form a b c d = value (Four form a.start a.tree b.tree c.tree d.tree) a.start

-- a node of five values, which begins where the first does
abbrev pub node_five : FiveChildren → Found → Found → Found → Found → Found → Found
node_five form a b c d e = value (Five form a.start a.tree b.tree c.tree d.tree e.tree) a.start

-- a value in parentheses begins at the first of them, and is no place
abbrev pub closed : List Found → List Found
closed vs = value (first vs) (start (rest vs)) ∷ rest (rest vs)

-- a node of the last value
abbrev pub one : OneChild → List Found → List Found
one form vs = value (One form (start vs) (first vs)) (start vs) ∷ (rest vs)

-- a node of the last two values, the earlier one first
abbrev pub two : TwoChildren → List Found → List Found
two form vs = record { tree = Two form (start (rest vs)) (first (rest vs)) (first vs); start = start (rest vs); is_place = is_place_form form } ∷ (rest (rest vs))

-- a node of the last three values
abbrev pub three : ThreeChildren → List Found → List Found
three form vs = value (Three form (start (rest (rest vs))) (first (rest (rest vs))) (first (rest vs)) (first vs)) (start (rest (rest vs))) ∷ (rest (rest (rest vs)))

-- a node of the last four values
abbrev pub four : FourChildren → List Found → List Found
four form vs = value (Four form (start (rest (rest (rest vs)))) (first (rest (rest (rest vs)))) (first (rest (rest vs))) (first (rest vs)) (first vs)) (start (rest (rest (rest vs)))) ∷ (rest (rest (rest (rest vs))))

-- a node of the last five values
abbrev pub five : FiveChildren → List Found → List Found
five form vs = value (Five form (start (rest (rest (rest (rest vs))))) (first (rest (rest (rest (rest vs))))) (first (rest (rest (rest vs)))) (first (rest (rest vs))) (first (rest vs)) (first vs)) (start (rest (rest (rest (rest vs))))) ∷ (rest (rest (rest (rest (rest vs)))))

-- what is made of the values, the last first
abbrev pub act : Action → List Found → List Found
act act_of.Empty vs = value Empty 0 ∷ vs
act act_of.Nothing vs = value Missing 0 ∷ vs
act act_of.Closed vs = closed vs
act (act_of.One form) vs = one form vs
act (act_of.Two form) vs = two form vs
act (act_of.Three form) vs = three form vs
act (act_of.Four form) vs = four form vs
act (act_of.Five form) vs = five form vs

-- the number that is no node's: a module has at most so many nodes, counted from 0
abbrev pub no_node : ℕ
no_node = 4294967295
