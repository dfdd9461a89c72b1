-- Pieces that may follow one another in a print, so that no two of them run together and each is read as it is meant.
use Rattle.std.specs.Prelude.{◌≡◌, ℕ, Bool, true, false, not, List, [], ◌∷◌}
use Rattle.ink_grammar.specs.declared.token.Keyword.{Keyword}
use Rattle.ink_grammar.specs.declared.token.Keyword.TheVariants as keyword
use Rattle.ink_grammar.specs.declared.token.Shape.{Shape}
use Rattle.ink_grammar.specs.declared.token.Shape.TheVariants as shape
use Rattle.ink_grammar.specs.declared.token.Terminal.{Terminal}
use Rattle.ink_grammar.specs.Shapes.{is_link_name}
use Rattle.ink_print.specs.declared.class.Class.TheVariants as class
use Rattle.ink_print.specs.declared.step.Piece.{Piece}
use Rattle.ink_print.specs.declared.step.Piece.TheVariants as piece
use Rattle.ink_print.specs.declared.step.Sign.{Sign}
use Rattle.ink_print.specs.declared.step.Sign.TheVariants as sign
use Rattle.ink_print.specs.Layout.{class_of_shape}
use Rattle.ink_law_categories.specs.Nested.{Level, Outside, Inside, Embedded, Braces, IsCode}
use Rattle.ink_law_categories.specs.Written.{IsWorded, IsQuote, IsPartOf}

-- whether a token of this shape is a word or a number, and no keyword
abbrev pub is_word : Shape → Bool
is_word shape.Name = true
is_word shape.Constant = true
is_word shape.Field = true
is_word shape.Integer = true
is_word shape.Hexadecimal = true
is_word shape.Underscore = true
is_word _ = false

-- whether a keyword is a value
abbrev pub is_value : Keyword → Bool
is_value keyword.SelfWord = true
is_value keyword.True = true
is_value keyword.False = true
is_value keyword.Nil = true
is_value _ = false

-- whether a sign is neither the end of a line nor a brace
abbrev pub is_plain : Sign → Bool
is_plain sign.Line = false
is_plain sign.BlockOpening = false
is_plain sign.BlockClosing = false
is_plain sign.PatternOpening = false
is_plain sign.PatternClosing = false
is_plain sign.TextOpening = false
is_plain sign.TextClosing = false
is_plain _ = true

-- whether a sign opens braces
abbrev pub is_left_brace : Sign → Bool
is_left_brace sign.BlockOpening = true
is_left_brace sign.PatternOpening = true
is_left_brace _ = false

-- whether it closes them
abbrev pub is_right_brace : Sign → Bool
is_right_brace sign.BlockClosing = true
is_right_brace sign.PatternClosing = true
is_right_brace _ = false

-- whether a plain sign closes what an operand may end with
abbrev pub is_closing : Sign → Bool
is_closing sign.RightParen = true
is_closing sign.RightBracket = true
is_closing _ = false

-- what is open within braces
abbrev pub within : Level → List Level → List Level
within Outside ls = Outside ∷ ls
within (Inside quote ends) ls = Inside quote ends ∷ ls
within Embedded ls = Braces ∷ Embedded ∷ ls
within Braces ls = Braces ∷ Braces ∷ ls

-- Pieces that may stand where these levels are open, the innermost first. The flag says whether a word may stand directly
-- there: not behind another, nor behind what ends an operand, since a `-` would subtract there.
pub data Follow (source : List ℕ) : List Level → Bool → List Piece → Type 0 where
  nothing : {free : Bool} → Follow source (Outside ∷ []) free []
  ends_line : {free : Bool} {l : Level} {ls : List Level} {ps : List Piece} → IsCode l → Follow source (l ∷ ls) true ps → Follow source (l ∷ ls) free (piece.Sign sign.Line ∷ ps)
  a_word : {l : Level} {ls : List Level} {t : Terminal} {ps : List Piece} → IsCode l → is_word t.shape ≡ true → IsWorded source t → Follow source (l ∷ ls) false ps → Follow source (l ∷ ls) true (piece.Token t ∷ ps)
  a_keyword : {free : Bool} {l : Level} {ls : List Level} {t : Terminal} {k : Keyword} {ps : List Piece} → IsCode l → t.shape ≡ shape.Keyword k → IsWorded source t → Follow source (l ∷ ls) (not (is_value k)) ps → Follow source (l ∷ ls) free (piece.Token t ∷ ps)
  an_operator : {free : Bool} {l : Level} {ls : List Level} {t : Terminal} {ps : List Piece} → IsCode l → class_of_shape t.shape ≡ class.Operator → IsWorded source t → Follow source (l ∷ ls) true ps → Follow source (l ∷ ls) free (piece.Token t ∷ ps)
  a_name : {l : Level} {ls : List Level} {t : Terminal} {ps : List Piece} → IsCode l → is_link_name t.shape ≡ true → IsWorded source t → Follow source (l ∷ ls) false ps → Follow source (l ∷ ls) true (piece.Name t ∷ ps)
  a_sign : {free : Bool} {l : Level} {ls : List Level} {s : Sign} {ps : List Piece} → IsCode l → is_plain s ≡ true → Follow source (l ∷ ls) (not (is_closing s)) ps → Follow source (l ∷ ls) free (piece.Sign s ∷ ps)
  left_brace : {free : Bool} {l : Level} {ls : List Level} {s : Sign} {ps : List Piece} → IsCode l → is_left_brace s ≡ true → Follow source (within l ls) true ps → Follow source (l ∷ ls) free (piece.Sign s ∷ ps)
  right_brace : {free : Bool} {ls : List Level} {s : Sign} {ps : List Piece} → is_right_brace s ≡ true → Follow source (Outside ∷ ls) false ps → Follow source (Outside ∷ ls) free (piece.Sign s ∷ ps)
  closes_braces : {free : Bool} {ls : List Level} {s : Sign} {ps : List Piece} → is_right_brace s ≡ true → Follow source ls false ps → Follow source (Braces ∷ ls) free (piece.Sign s ∷ ps)
  opens_text : {free : Bool} {l : Level} {ls : List Level} {t : Terminal} {ps : List Piece} → IsCode l → t.shape ≡ shape.Quote → IsQuote source t → Follow source (Inside t false ∷ l ∷ ls) true ps → Follow source (l ∷ ls) free (piece.Token t ∷ ps)
  closes_text : {free ends : Bool} {ls : List Level} {t : Terminal} {ps : List Piece} → t.shape ≡ shape.Quote → IsQuote source t → Follow source ls false ps → Follow source (Inside t ends ∷ ls) free (piece.Token t ∷ ps)
  a_part : {free : Bool} {ls : List Level} {quote t : Terminal} {ps : List Piece} → IsQuote source quote → t.shape ≡ shape.TextPart → IsPartOf source quote t → Follow source (Inside quote true ∷ ls) true ps → Follow source (Inside quote false ∷ ls) free (piece.Token t ∷ ps)
  opens_value : {free ends : Bool} {ls : List Level} {quote : Terminal} {ps : List Piece} → IsQuote source quote → Follow source (Embedded ∷ Inside quote false ∷ ls) true ps → Follow source (Inside quote ends ∷ ls) free (piece.Sign sign.TextOpening ∷ ps)
  closes_value : {free : Bool} {ls : List Level} {ps : List Piece} → Follow source ls true ps → Follow source (Embedded ∷ ls) free (piece.Sign sign.TextClosing ∷ ps)

-- whether no line ends before the first piece
abbrev pub is_begun : List Piece → Bool
is_begun (piece.Sign sign.Line ∷ ps) = false
is_begun _ = true
