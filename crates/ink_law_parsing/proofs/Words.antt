-- The tokens of words and signs.
use Rattle.std.proofs.Common.{◌≡◌, ℕ, Bool, true, false, List, [], ◌∷◌, Some, refl, sym, ap, subst, ◌∙◌}
use Rattle.ink_grammar.specs.declared.token.Shape.{Shape}
use Rattle.ink_grammar.specs.declared.token.Shape.TheVariants as shape
use Rattle.ink_grammar.specs.declared.token.Keyword.TheVariants as keyword
use Rattle.ink_grammar.specs.declared.token.Mark.TheVariants as mark
use Rattle.ink_grammar.specs.declared.token.Terminal.{Terminal}
use Rattle.ink_grammar.specs.declared.symbol.Wanted.TheVariants as wanted
use Rattle.ink_grammar.specs.Shapes.{same, is}
use Rattle.ink_grammar.specs.Tree.{Tree, Leaf}
use Rattle.ink_print.specs.declared.context.Context.TheVariants as context
use Rattle.ink_print.specs.declared.context.Rank.TheVariants as rank
use Rattle.ink_print.specs.declared.step.Piece.TheVariants as piece
use Rattle.ink_print.specs.Surround.{rank_of_shape}
use Rattle.ink_print.specs.Printed.{around, printed}
use Rattle.ink_law_categories.specs.Spells.{Spells, nothing, token, name, IsSameToken}
use Rattle.ink_law_categories.specs.Alike.{Alike, is_bracket}
use Rattle.ink_law_categories.specs.Alike as alike

same_self : (x : Shape) → same x x ≡ true
same_self (shape.Keyword keyword.And) = refl
same_self (shape.Mark mark.LeftParen) = refl
same_self _ = refl

-- a token that has a shape is one of this shape
pub has : {x y : Shape} → y ≡ x → same x y ≡ true
has {x = x} e = subst (λ z. same x z ≡ true) (sym e) (same_self x)

some_same : {x y : Shape} → Some x ≡ Some y → x ≡ y
some_same e = cc

-- a token of a sign has its shape
pub has_sign : {x y : Shape} → Some x ≡ Some y → same x y ≡ true
has_sign e = has (sym (some_same e))

-- a kept token of which this holds
pub data Kept (Q : Shape → Type 0) : Tree → Type 0 where
  kept : {t : Terminal} → Q t.shape → Kept Q (Leaf t)

-- a token of the print that is that of a leaf
pub data TokenAt (source print : List ℕ) (Q : Shape → Type 0) (line : Bool) : Tree → List Terminal → Bool → Type 0 where
  token_at : {t u : Terminal} → u.new_line ≡ line → IsSameToken source print t u → Q u.shape → TokenAt source print Q line (Leaf t) (u ∷ []) false

pub word_read : {source print : List ℕ} {Q : Shape → Type 0} {line end : Bool} {a : Tree} {us : List Terminal} → Kept Q a → Spells source print line (printed a context.Expression) us end → TokenAt source print Q line a us end
unfolding printed
word_read {Q = Q} (kept q) (token n h nothing) = token_at n h (subst Q (sym h.shape) q)

pub name_read : {source print : List ℕ} {Q : Shape → Type 0} {line end : Bool} {a : Tree} {us : List Terminal} → Kept Q a → Spells source print line (printed a context.Name) us end → TokenAt source print Q line a us end
unfolding printed
name_read {Q = Q} (kept q) (name n h nothing) = token_at n h (subst Q (sym h.shape) q)

-- atoms are no jumps out of a loop
pub rank_of_atom : (x : Shape) → is wanted.Atom x ≡ true → rank_of_shape x ≡ rank.Base
rank_of_atom shape.TextPart h = let bad : false ≡ true = h in cc
rank_of_atom (shape.Keyword keyword.Break) h = let bad : false ≡ true = h in cc
rank_of_atom (shape.Keyword keyword.Next) h = let bad : false ≡ true = h in cc
rank_of_atom _ h = refl

pub rank_of_jump : (x : Shape) → is wanted.LoopJump x ≡ true → rank_of_shape x ≡ rank.Expression
rank_of_jump (shape.Keyword keyword.Break) h = refl
rank_of_jump (shape.Keyword keyword.Next) h = refl
rank_of_jump (shape.Mark mark.LeftParen) h = let bad : false ≡ true = h in cc
rank_of_jump _ h = let bad : false ≡ true = h in cc

-- brackets are alike, whatever their text
pub bracket_alike : {source print : List ℕ} {x : Shape} {a : Tree} {u : Terminal} → Kept (λ y. y ≡ x) a → is_bracket x ≡ true → Some x ≡ Some u.shape → Alike source print a (Leaf u)
bracket_alike (kept q) e f = alike.bracket (subst (λ z. is_bracket z ≡ true) (sym q) e) (sym (some_same f) ∙ sym q)

-- a part of a text stands in no `${`
pub part_read : {source print : List ℕ} {line end : Bool} {a : Tree} {us : List Terminal} → Kept (λ y. y ≡ shape.TextPart) a → Spells source print line (printed a context.TextItem) us end → TokenAt source print (λ y. y ≡ shape.TextPart) line a us end
unfolding printed
part_read {source = source} {print = print} {line = line} {end = end} {us = us} (kept {t = t} q) h = word_read (kept q) (subst (λ r. Spells source print line (around context.TextItem r (piece.Token t ∷ [])) us end) (ap rank_of_shape q) h)
