-- Tokens that a scanner may give one after the other: texts, their `${` and braces in those are closed as they were opened.
use Rattle.std.specs.Prelude.{◌≡◌, ℕ, Bool, true, false, List, [], ◌∷◌}
use Rattle.ink_grammar.specs.declared.token.Mark.TheVariants as mark
use Rattle.ink_grammar.specs.declared.token.Shape.{Shape}
use Rattle.ink_grammar.specs.declared.token.Shape.TheVariants as shape
use Rattle.ink_grammar.specs.declared.token.Terminal.{Terminal}
use Rattle.ink_law_categories.specs.Written.{IsWorded, IsQuote, IsPartOf}

-- what is open: nothing; a text, with its quote, and whether its last item is a part; a `${`; a `{` in such
pub data Level : Type 0 where
  Outside : Level
  Inside : Terminal → Bool → Level
  Embedded : Level
  Braces : Level

-- no text
abbrev pub IsCode : Level → Type 0
IsCode Outside = Unit {0}
IsCode (Inside quote ends) = ⊥
IsCode Embedded = Unit {0}
IsCode Braces = Unit {0}

-- whether tokens of this shape open and close nothing
abbrev pub is_flat : Shape → Bool
is_flat shape.Quote = false
is_flat shape.TextPart = false
is_flat shape.Opening = false
is_flat shape.Closing = false
is_flat (shape.Mark mark.LeftBrace) = false
is_flat (shape.Mark mark.RightBrace) = false
is_flat _ = true

-- Tokens that lead from what is open before them, the innermost first, to what is open behind them.
pub data Nested (source : List ℕ) : List Level → List Terminal → List Level → Type 0 where
  none : {last : List Level} → Nested source last [] last
  flat : {l : Level} {ls last : List Level} {t : Terminal} {ts : List Terminal} → IsCode l → is_flat t.shape ≡ true → IsWorded source t → Nested source (l ∷ ls) ts last → Nested source (l ∷ ls) (t ∷ ts) last
  left_brace : {last : List Level} {t : Terminal} {ts : List Terminal} → t.shape ≡ shape.Mark mark.LeftBrace → Nested source (Outside ∷ []) ts last → Nested source (Outside ∷ []) (t ∷ ts) last
  right_brace : {last : List Level} {t : Terminal} {ts : List Terminal} → t.shape ≡ shape.Mark mark.RightBrace → Nested source (Outside ∷ []) ts last → Nested source (Outside ∷ []) (t ∷ ts) last
  opens_in_value : {ls last : List Level} {t : Terminal} {ts : List Terminal} → t.shape ≡ shape.Mark mark.LeftBrace → Nested source (Braces ∷ Embedded ∷ ls) ts last → Nested source (Embedded ∷ ls) (t ∷ ts) last
  opens_in_braces : {ls last : List Level} {t : Terminal} {ts : List Terminal} → t.shape ≡ shape.Mark mark.LeftBrace → Nested source (Braces ∷ Braces ∷ ls) ts last → Nested source (Braces ∷ ls) (t ∷ ts) last
  closes_braces : {ls last : List Level} {t : Terminal} {ts : List Terminal} → t.shape ≡ shape.Mark mark.RightBrace → Nested source ls ts last → Nested source (Braces ∷ ls) (t ∷ ts) last
  opens_text : {l : Level} {ls last : List Level} {t : Terminal} {ts : List Terminal} → IsCode l → t.shape ≡ shape.Quote → IsQuote source t → Nested source (Inside t false ∷ l ∷ ls) ts last → Nested source (l ∷ ls) (t ∷ ts) last
  closes_text : {quote : Terminal} {ends : Bool} {ls last : List Level} {t : Terminal} {ts : List Terminal} → t.shape ≡ shape.Quote → Nested source ls ts last → Nested source (Inside quote ends ∷ ls) (t ∷ ts) last
  part : {quote : Terminal} {ls last : List Level} {t : Terminal} {ts : List Terminal} → t.shape ≡ shape.TextPart → IsPartOf source quote t → Nested source (Inside quote true ∷ ls) ts last → Nested source (Inside quote false ∷ ls) (t ∷ ts) last
  opens_value : {quote : Terminal} {ends : Bool} {ls last : List Level} {t : Terminal} {ts : List Terminal} → t.shape ≡ shape.Opening → Nested source (Embedded ∷ Inside quote false ∷ ls) ts last → Nested source (Inside quote ends ∷ ls) (t ∷ ts) last
  closes_value : {ls last : List Level} {t : Terminal} {ts : List Terminal} → t.shape ≡ shape.Closing → Nested source ls ts last → Nested source (Embedded ∷ ls) (t ∷ ts) last
