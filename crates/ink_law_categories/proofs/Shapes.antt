-- What the shape of a token tells.
use Rattle.std.proofs.Common.{◌≡◌, Bool, true, get_or, refl, sym, ap, subst, ◌∙◌}
use Rattle.std.proofs.lemmas.Bool.{eqb-true}
use Rattle.ink_grammar.specs.declared.token.Keyword.{Keyword}
use Rattle.ink_grammar.specs.declared.token.Keyword.TheVariants as keyword
use Rattle.ink_grammar.specs.declared.token.Mark.{Mark}
use Rattle.ink_grammar.specs.declared.token.Mark.TheVariants as mark
use Rattle.ink_grammar.specs.declared.token.Shape.{Shape}
use Rattle.ink_grammar.specs.declared.token.Shape.TheVariants as shape
use Rattle.ink_grammar.specs.declared.symbol.Wanted.{Wanted}
use Rattle.ink_grammar.specs.declared.symbol.Wanted.TheVariants as wanted
use Rattle.ink_grammar.specs.Shapes.{number, same, is}
use Rattle.ink_grammar.specs.Tree.{is_place_word}
use Rattle.ink_grammar.proofs.Bools.{shapes, implies, implied, every_at}
use Rattle.ink_law_categories.specs.Nested.{is_flat}

keyword_back : (k : Keyword) → get_or shapes (number (shape.Keyword k)) shape.Name ≡ shape.Keyword k
keyword_back keyword.And = refl
keyword_back _ = refl

mark_back : (m : Mark) → get_or shapes (number (shape.Mark m)) shape.Name ≡ shape.Mark m
mark_back mark.LeftParen = refl
mark_back _ = refl

-- a shape by its number
back : (x : Shape) → get_or shapes (number x) shape.Name ≡ x
back (shape.Keyword k) = keyword_back k
back (shape.Mark m) = mark_back m
back _ = refl

-- shapes that are the same by number are one
pub one_shape : (x y : Shape) → same x y ≡ true → y ≡ x
one_shape x y h = sym (back y) ∙ ap (λ n. get_or shapes n shape.Name) (sym (eqb-true (number x) (number y) h)) ∙ back x

-- a token that is wanted for what it says opens and closes nothing
abbrev pub is_said : Wanted → Bool
is_said (wanted.Mark x) = is_flat x
is_said (wanted.Word x) = is_flat x
is_said _ = true

pub said_flat : (w : Wanted) → is_said w ≡ true → (x : Shape) → is w x ≡ true → is_flat x ≡ true
said_flat (wanted.Mark y) e x h = subst (λ z. is_flat z ≡ true) (sym (one_shape y x h)) e
said_flat (wanted.Word y) e x h = subst (λ z. is_flat z ≡ true) (sym (one_shape y x h)) e
said_flat w e x h = implied (is w x) (is_flat x) (every_at (λ y new_line. implies (is w y) (is_flat y)) refl x true) h

-- an atom that is a place is a field
pub atom_place : (x : Shape) → is wanted.Atom x ≡ true → is_place_word x ≡ true → x ≡ shape.Field
atom_place x h p = one_shape shape.Field x (implied (is_place_word x) (same shape.Field x) (implied (is wanted.Atom x) (implies (is_place_word x) (same shape.Field x)) (every_at (λ y new_line. implies (is wanted.Atom y) (implies (is_place_word y) (same shape.Field y))) refl x true) h) p)
