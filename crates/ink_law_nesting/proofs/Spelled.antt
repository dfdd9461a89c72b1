-- What a scanner reads next, by what is open.
use Rattle.std.proofs.Common.{◌≡◌, ℕ, Bool, true, false, cond, ◌||◌, List, [], ◌∷◌, Option, None, Some, refl, sym, ap, subst, inl, inr}
use Rattle.std.specs.Prelude.{slice_index, codes}
use Rattle.std.specs.List.{find}
use Rattle.std.specs.Str.{bytes_eq}
use Rattle.std.proofs.lemmas.Slice.Eq.{bytes_eq-Decides}
use Rattle.ink_base.specs.declared.token.TokenKind.{TokenKind}
use Rattle.ink_base.specs.declared.token.TokenKind.TheVariants as kind
use Rattle.ink_tokens.specs.Spelling.{IsSpelled, spelled_name, spelled_const, spelled_field, spelled_integer, spelled_symbol}
use Rattle.ink_tokens.specs.Words.{word_kind, is_keyword}
use Rattle.ink_grammar.specs.declared.token.Keyword.{Keyword}
use Rattle.ink_grammar.specs.declared.token.Mark.{Mark}
use Rattle.ink_grammar.specs.declared.token.Mark.TheVariants as mark
use Rattle.ink_grammar.specs.declared.token.Shape.{Shape}
use Rattle.ink_grammar.specs.declared.token.Shape.TheVariants as shape
use Rattle.ink_shapes.specs.Keywords.{keyword_of}
use Rattle.ink_shapes.specs.Marks as marks
use Rattle.ink_shapes.specs.Terminals.{shape_by, integer_shape, keyword_shape, mark_shape}
use Rattle.ink_law_categories.specs.Nested.{is_flat}
use Rattle.ink_tokens.proofs.Choices.{chosen-keeps}

-- a token may be spelled with a sign where it is spelled without
pub with_sign : (flag : Bool) (text : List ℕ) (k : TokenKind) → IsSpelled flag text k → IsSpelled true text k
with_sign flag text _ (spelled_name is) = spelled_name is
with_sign flag text _ (spelled_const is) = spelled_const is
with_sign flag text _ (spelled_field is) = spelled_field is
with_sign flag text _ (spelled_integer (inl is)) = spelled_integer (inl is)
with_sign flag text _ (spelled_integer (inr is)) = spelled_integer (inr (refl, is.1, is.2, is.3))
with_sign flag text _ (spelled_symbol is) = spelled_symbol is

-- what a token's shape tells: it opens and closes nothing, or is one of the braces
pub data Tells (x : Shape) (first : ℕ) : Type 0 where
  flat : is_flat x ≡ true → Tells x first
  left : x ≡ shape.Mark mark.LeftBrace → first ≡ 123 → Tells x first
  right : x ≡ shape.Mark mark.RightBrace → first ≡ 125 → Tells x first

keyword-tells : (o : Option Keyword) (first : ℕ) → Tells (keyword_shape o) first
unfolding keyword_shape
keyword-tells None first = flat refl
keyword-tells (Some k) first = flat refl

integer-tells : (text : List ℕ) (first : ℕ) → Tells (integer_shape text) first
unfolding integer_shape
integer-tells text first = chosen-keeps (λ x. Tells x first) _ shape.Hexadecimal shape.Integer (flat refl) (flat refl)

word-tells : (text other : List ℕ) (first : ℕ) → Tells (shape_by (word_kind text) other) first
unfolding word_kind shape_by
word-tells text other first =
    chosen-keeps (λ k. Tells (shape_by k other) first) (bytes_eq text (codes "_")) kind.Underscore _ (flat refl)
    (chosen-keeps (λ k. Tells (shape_by k other) first) (is_keyword text) kind.Keyword kind.Name (keyword-tells (keyword_of other) first) (flat refl))

or-false : (b : Bool) → (b || false) ≡ true → b ≡ true
or-false true is = refl
or-false false is = is

-- one text that is found equal is that text
written-so : (one text : List ℕ) → (bytes_eq one text || false) ≡ true → text ≡ one
written-so one text same = sym ((bytes_eq-Decides one text).0 (or-false (bytes_eq one text) same))

-- the first byte of a mark that is a brace
mark-first : (m : Mark) (text : List ℕ) → marks.is_written m text ≡ true → Tells (shape.Mark m) (slice_index text 0)
unfolding marks.is_written
mark-first mark.LeftBrace text written = left refl (ap (λ t. slice_index t 0) (written-so (codes "{") text written))
mark-first mark.RightBrace text written = right refl (ap (λ t. slice_index t 0) (written-so (codes "}") text written))
mark-first mark.LeftParen text written = flat refl
mark-first mark.RightParen text written = flat refl
mark-first mark.LeftBracket text written = flat refl
mark-first mark.RightBracket text written = flat refl
mark-first mark.Comma text written = flat refl
mark-first mark.Dot text written = flat refl
mark-first mark.Colon text written = flat refl
mark-first mark.Swap text written = flat refl
mark-first mark.Equals text written = flat refl
mark-first mark.Arrow text written = flat refl
mark-first mark.Plus text written = flat refl
mark-first mark.Operator text written = flat refl
mark-first mark.OperatorEquals text written = flat refl

-- the first element passes the test, or what is found stands behind it
first-passes : {A : Type 0} (p : A → Bool) (y x : A) (found : Option A) (b : Bool) → p y ≡ b → (found ≡ Some x → p x ≡ true) →
    cond b (Some y) found ≡ Some x → p x ≡ true
first-passes p y x found true passes behind is = let same : y ≡ x = cc in subst (λ z. p z ≡ true) same passes
first-passes p y x found false passes behind is = behind is

-- what is found passes the test
found-passes : {A : Type 0} (p : A → Bool) (xs : List A) (x : A) → find p xs ≡ Some x → p x ≡ true
found-passes p [] x is = cc
found-passes p (y ∷ ys) x is = first-passes p y x (find p ys) (p y) refl (λ behind. found-passes p ys x behind) is

mark-tells : (o : Option Mark) (text : List ℕ) → marks.mark_of text ≡ o → Tells (mark_shape o) (slice_index text 0)
unfolding marks.mark_of mark_shape
mark-tells None text is = flat refl
mark-tells (Some m) text is = mark-first m text (found-passes (λ mark'. marks.is_written mark' text) marks.marks m is)

-- what the spelling of a token tells of its shape and its first byte
pub spelled-tells : (text : List ℕ) (k : TokenKind) → IsSpelled true text k → Tells (shape_by k text) (slice_index text 0)
unfolding shape_by
spelled-tells text _ (spelled_name is) = word-tells text text (slice_index text 0)
spelled-tells text _ (spelled_const is) = flat refl
spelled-tells text _ (spelled_field is) = flat refl
spelled-tells text _ (spelled_integer is) = integer-tells text (slice_index text 0)
spelled-tells text _ (spelled_symbol is) = mark-tells (marks.mark_of text) text refl
