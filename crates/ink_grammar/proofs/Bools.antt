-- Tests, and tests for all shapes of tokens.
use Rattle.std.proofs.Common.{◌≡◌, ℕ, zero, suc, ◌==◌, Bool, true, false, not, ◌&&◌, ◌||◌, List, [], ◌∷◌, inl, inr, refl, sym, ap, ◌∙◌, Some}
use Rattle.std.specs.Prelude.{slice_get}
use Rattle.std.proofs.lemmas.Bool.{eq-eqb}
use Rattle.ink_grammar.specs.Shapes.{number}
use Rattle.ink_grammar.specs.declared.token.Keyword.{Keyword}
use Rattle.ink_grammar.specs.declared.token.Keyword.TheVariants as keyword
use Rattle.ink_grammar.specs.declared.token.Mark.{Mark}
use Rattle.ink_grammar.specs.declared.token.Mark.TheVariants as mark
use Rattle.ink_grammar.specs.declared.token.Shape.{Shape}
use Rattle.ink_grammar.specs.declared.token.Shape.TheVariants as shape
use Rattle.ink_grammar.specs.Reads.{Among}

pub and_left : (x y : Bool) → x && y ≡ true → x ≡ true
and_left true y e = refl
and_left false y e = e

pub and_right : (x y : Bool) → x && y ≡ true → y ≡ true
and_right true y e = e
and_right false y e = cc

pub and_both : (x y : Bool) → x ≡ true → y ≡ true → x && y ≡ true
and_both true y e f = f
and_both false y e f = e

pub or_left : (x y : Bool) → x ≡ true → x || y ≡ true
or_left true y e = refl
or_left false y e = cc

pub or_right : (x y : Bool) → y ≡ true → x || y ≡ true
or_right true y e = refl
or_right false y e = e

pub or_cases : {C : Type 0} (x y : Bool) → x || y ≡ true → (x ≡ true → C) → (y ≡ true → C) → C
or_cases true y e f g = f refl
or_cases false y e f g = g e

pub by_cases : {C : Type 0} (x : Bool) → (x ≡ true → C) → (x ≡ false → C) → C
by_cases true f g = f refl
by_cases false f g = g refl

pub not_both : {C : Type 0} {x : Bool} → x ≡ true → x ≡ false → C
not_both {x = x} e f = let h : true ≡ false = cc in cc

pub not_true : (x : Bool) → not x ≡ true → x ≡ false
not_true true e = cc
not_true false e = refl

pub not_false : (x : Bool) → x ≡ false → not x ≡ true
not_false true e = cc
not_false false e = refl

abbrev pub implies : Bool → Bool → Bool
implies true y = y
implies false y = true

pub implied : (x y : Bool) → implies x y ≡ true → x ≡ true → y ≡ true
implied true y e f = e
implied false y e f = cc

abbrev pub all : {A : Type 0} → (A → Bool) → List A → Bool
all p [] = true
all p (x ∷ xs) = p x && all p xs

pub all_at : {A : Type 0} (p : A → Bool) (xs : List A) (x : A) → all p xs ≡ true → Among x xs → p x ≡ true
all_at p [] x e h = elim h [ ]
all_at p (y ∷ ys) x e (inl h) = ap p h ∙ and_left (p y) (all p ys) e
all_at p (y ∷ ys) x e (inr h) = all_at p ys x (and_right (p y) (all p ys) e) h

-- each shape
abbrev pub shapes : List Shape
shapes =
    shape.Name ∷ shape.Constant ∷ shape.Field ∷ shape.Integer ∷ shape.Hexadecimal ∷ shape.Underscore ∷
    shape.Quote ∷ shape.TextPart ∷ shape.Opening ∷ shape.Closing ∷ shape.Keyword keyword.And ∷ shape.Keyword keyword.Async ∷
    shape.Keyword keyword.Break ∷ shape.Keyword keyword.Case ∷ shape.Keyword keyword.Else ∷ shape.Keyword keyword.Enum ∷ shape.Keyword keyword.False ∷ shape.Keyword keyword.Fn ∷
    shape.Keyword keyword.For ∷ shape.Keyword keyword.If ∷ shape.Keyword keyword.Impl ∷ shape.Keyword keyword.Import ∷ shape.Keyword keyword.Let ∷ shape.Keyword keyword.Loop ∷
    shape.Keyword keyword.Match ∷ shape.Keyword keyword.Move ∷ shape.Keyword keyword.Mut ∷ shape.Keyword keyword.Next ∷ shape.Keyword keyword.Nil ∷ shape.Keyword keyword.Or ∷
    shape.Keyword keyword.Pub ∷ shape.Keyword keyword.Recover ∷ shape.Keyword keyword.Ref ∷ shape.Keyword keyword.Return ∷ shape.Keyword keyword.SelfWord ∷ shape.Keyword keyword.Static ∷
    shape.Keyword keyword.Throw ∷ shape.Keyword keyword.Trait ∷ shape.Keyword keyword.True ∷ shape.Keyword keyword.Try ∷ shape.Keyword keyword.Type ∷ shape.Keyword keyword.Uni ∷
    shape.Keyword keyword.While ∷ shape.Mark mark.LeftParen ∷ shape.Mark mark.RightParen ∷ shape.Mark mark.LeftBracket ∷ shape.Mark mark.RightBracket ∷ shape.Mark mark.LeftBrace ∷
    shape.Mark mark.RightBrace ∷ shape.Mark mark.Comma ∷ shape.Mark mark.Dot ∷ shape.Mark mark.Colon ∷ shape.Mark mark.Swap ∷ shape.Mark mark.Equals ∷
    shape.Mark mark.Arrow ∷ shape.Mark mark.Plus ∷ shape.Mark mark.Operator ∷ shape.Mark mark.OperatorEquals ∷
    []

some_same : {A : Type 0} {x y : A} → Some x ≡ Some y → x ≡ y
some_same e = cc

found_among : (xs : List Shape) (i : ℕ) (x : Shape) → slice_get xs i ≡ Some x → Among x xs
found_among [] i x e = cc
found_among (y ∷ ys) zero x e = inl (sym (some_same e))
found_among (y ∷ ys) (suc i) x e = inr (found_among ys i x e)

keyword_stands : (k : Keyword) → slice_get shapes (number (shape.Keyword k)) ≡ Some (shape.Keyword k)
keyword_stands keyword.And = refl
keyword_stands keyword.Async = refl
keyword_stands keyword.Break = refl
keyword_stands keyword.Case = refl
keyword_stands keyword.Else = refl
keyword_stands keyword.Enum = refl
keyword_stands keyword.False = refl
keyword_stands keyword.Fn = refl
keyword_stands keyword.For = refl
keyword_stands keyword.If = refl
keyword_stands keyword.Impl = refl
keyword_stands keyword.Import = refl
keyword_stands keyword.Let = refl
keyword_stands keyword.Loop = refl
keyword_stands keyword.Match = refl
keyword_stands keyword.Move = refl
keyword_stands keyword.Mut = refl
keyword_stands keyword.Next = refl
keyword_stands keyword.Nil = refl
keyword_stands keyword.Or = refl
keyword_stands keyword.Pub = refl
keyword_stands keyword.Recover = refl
keyword_stands keyword.Ref = refl
keyword_stands keyword.Return = refl
keyword_stands keyword.SelfWord = refl
keyword_stands keyword.Static = refl
keyword_stands keyword.Throw = refl
keyword_stands keyword.Trait = refl
keyword_stands keyword.True = refl
keyword_stands keyword.Try = refl
keyword_stands keyword.Type = refl
keyword_stands keyword.Uni = refl
keyword_stands keyword.While = refl

mark_stands : (m : Mark) → slice_get shapes (number (shape.Mark m)) ≡ Some (shape.Mark m)
mark_stands mark.LeftParen = refl
mark_stands mark.RightParen = refl
mark_stands mark.LeftBracket = refl
mark_stands mark.RightBracket = refl
mark_stands mark.LeftBrace = refl
mark_stands mark.RightBrace = refl
mark_stands mark.Comma = refl
mark_stands mark.Dot = refl
mark_stands mark.Colon = refl
mark_stands mark.Swap = refl
mark_stands mark.Equals = refl
mark_stands mark.Arrow = refl
mark_stands mark.Plus = refl
mark_stands mark.Operator = refl
mark_stands mark.OperatorEquals = refl

-- each shape stands at its number
shape_stands : (x : Shape) → slice_get shapes (number x) ≡ Some x
shape_stands shape.Name = refl
shape_stands shape.Constant = refl
shape_stands shape.Field = refl
shape_stands shape.Integer = refl
shape_stands shape.Hexadecimal = refl
shape_stands shape.Underscore = refl
shape_stands shape.Quote = refl
shape_stands shape.TextPart = refl
shape_stands shape.Opening = refl
shape_stands shape.Closing = refl
shape_stands (shape.Keyword k) = keyword_stands k
shape_stands (shape.Mark m) = mark_stands m

-- for a token of each shape, at the begin of a line and within one
abbrev pub every : (Shape → Bool → Bool) → Bool
every f = all (λ x. f x true && f x false) shapes

pub every_at : (f : Shape → Bool → Bool) → every f ≡ true → (x : Shape) (new_line : Bool) → f x new_line ≡ true
every_at f e x true = and_left (f x true) (f x false) (all_at (λ y. f y true && f y false) shapes x e (found_among shapes (number x) x (shape_stands x)))
every_at f e x false = and_right (f x true) (f x false) (all_at (λ y. f y true && f y false) shapes x e (found_among shapes (number x) x (shape_stands x)))

-- a number is itself
pub equal_self : (n : ℕ) → n == n ≡ true
equal_self n = eq-eqb n n refl
