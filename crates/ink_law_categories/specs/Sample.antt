-- A small module: its source, its tokens and its tree.
use Rattle.std.specs.Prelude.{ℕ, false, List, [], ◌∷◌, codes}
use Rattle.ink_grammar.specs.declared.token.Keyword.TheVariants as keyword
use Rattle.ink_grammar.specs.declared.token.Mark.TheVariants as mark
use Rattle.ink_grammar.specs.declared.token.Shape.{Shape}
use Rattle.ink_grammar.specs.declared.token.Shape.TheVariants as shape
use Rattle.ink_grammar.specs.declared.token.Terminal.{Terminal}
use Rattle.ink_grammar.specs.declared.tree.OneChild.TheVariants as one_of
use Rattle.ink_grammar.specs.declared.tree.TwoChildren.TheVariants as two_of
use Rattle.ink_grammar.specs.declared.tree.ThreeChildren.TheVariants as three_of
use Rattle.ink_grammar.specs.declared.tree.FourChildren.TheVariants as four_of
use Rattle.ink_grammar.specs.Tree.{Tree, Missing, Leaf, Empty, One, Two, Three, Four}

-- fn a { "b${1}" }
abbrev pub source : List ℕ
source = codes "fn a { \"b${1}\" }"

abbrev pub token : Shape → ℕ → ℕ → Terminal
token x start end = record { shape = x; start = start; end = end; new_line = false }

abbrev pub word : Terminal
word = token (shape.Keyword keyword.Fn) 0 2

abbrev pub name : Terminal
name = token shape.Name 3 4

abbrev pub left : Terminal
left = token (shape.Mark mark.LeftBrace) 5 6

abbrev pub quote : Terminal
quote = token shape.Quote 7 8

abbrev pub part : Terminal
part = token shape.TextPart 8 9

abbrev pub opening : Terminal
opening = token shape.Opening 9 11

abbrev pub one : Terminal
one = token shape.Integer 11 12

abbrev pub closing : Terminal
closing = token shape.Closing 12 13

abbrev pub quote_behind : Terminal
quote_behind = token shape.Quote 13 14

abbrev pub right : Terminal
right = token (shape.Mark mark.RightBrace) 15 16

abbrev pub tokens : List Terminal
tokens = word ∷ name ∷ left ∷ quote ∷ part ∷ opening ∷ one ∷ closing ∷ quote_behind ∷ right ∷ []

-- the statement in its block: a text of a part and a value
abbrev pub text : Tree
text = Two two_of.Text 7 (Leaf quote) (Two two_of.More 0 (Two two_of.More 0 Empty (Leaf part)) (Leaf one))

abbrev pub block : Tree
block = Three three_of.Block 5 (Leaf left) (Two two_of.More 0 Empty (One one_of.Statement 7 text)) (Leaf right)

abbrev pub signature : Tree
signature = Four four_of.Signature 3 (Leaf name) Missing Missing Missing

abbrev pub tree : Tree
tree = Two two_of.Module 0 Empty (Two two_of.More 0 Empty (Four four_of.Method 0 (Leaf word) Empty signature block))
