-- Trees of two sources that are the same but for the places of their tokens.
use Rattle.std.specs.Prelude.{◌≡◌, ℕ, Bool, true, false, List}
use Rattle.ink_grammar.specs.declared.token.Mark.TheVariants as mark
use Rattle.ink_grammar.specs.declared.token.Shape.{Shape}
use Rattle.ink_grammar.specs.declared.token.Shape.TheVariants as shape
use Rattle.ink_grammar.specs.declared.token.Terminal.{Terminal}
use Rattle.ink_grammar.specs.declared.tree.OneChild.{OneChild}
use Rattle.ink_grammar.specs.declared.tree.TwoChildren.{TwoChildren}
use Rattle.ink_grammar.specs.declared.tree.ThreeChildren.{ThreeChildren}
use Rattle.ink_grammar.specs.declared.tree.FourChildren.{FourChildren}
use Rattle.ink_grammar.specs.declared.tree.FiveChildren.{FiveChildren}
use Rattle.ink_grammar.specs.Tree.{Tree, Missing, Leaf, Empty, One, Two, Three, Four, Five}
use Rattle.ink_law_categories.specs.Spells.{IsSameToken}

-- whether a shape is that of one bracket, so that it tells the text
abbrev pub is_bracket : Shape → Bool
is_bracket (shape.Mark mark.LeftParen) = true
is_bracket (shape.Mark mark.LeftBracket) = true
is_bracket (shape.Mark mark.LeftBrace) = true
is_bracket (shape.Mark mark.RightBrace) = true
is_bracket _ = false

-- The trees are the same, token by token, wherever those stand.
pub data Alike (source print : List ℕ) : Tree → Tree → Type 0 where
  missing : Alike source print Missing Missing
  empty : Alike source print Empty Empty
  token : {t u : Terminal} → IsSameToken source print t u → Alike source print (Leaf t) (Leaf u)
  bracket : {t u : Terminal} → is_bracket t.shape ≡ true → u.shape ≡ t.shape → Alike source print (Leaf t) (Leaf u)
  one : {form : OneChild} {s z : ℕ} {a j : Tree} → Alike source print a j → Alike source print (One form s a) (One form z j)
  two : {form : TwoChildren} {s z : ℕ} {a b j k : Tree} → Alike source print a j → Alike source print b k → Alike source print (Two form s a b) (Two form z j k)
  three : {form : ThreeChildren} {s z : ℕ} {a b c j k l : Tree} → Alike source print a j → Alike source print b k → Alike source print c l → Alike source print (Three form s a b c) (Three form z j k l)
  four : {form : FourChildren} {s z : ℕ} {a b c d j k l m : Tree} → Alike source print a j → Alike source print b k → Alike source print c l → Alike source print d m → Alike source print (Four form s a b c d) (Four form z j k l m)
  five : {form : FiveChildren} {s z : ℕ} {a b c d e j k l m n : Tree} → Alike source print a j → Alike source print b k → Alike source print c l → Alike source print d m → Alike source print e n → Alike source print (Five form s a b c d e) (Five form z j k l m n)
