-- Which tokens pieces of a print are.
use Rattle.std.specs.Prelude.{◌≡◌, ℕ, Bool, true, false, List, [], ◌∷◌, Option, None, Some}
use Rattle.ink_grammar.specs.declared.token.Keyword.TheVariants as keyword
use Rattle.ink_grammar.specs.declared.token.Mark.TheVariants as mark
use Rattle.ink_grammar.specs.declared.token.Shape.{Shape}
use Rattle.ink_grammar.specs.declared.token.Shape.TheVariants as shape
use Rattle.ink_grammar.specs.declared.token.Terminal.{Terminal}
use Rattle.ink_print.specs.declared.step.Piece.{Piece}
use Rattle.ink_print.specs.declared.step.Piece.TheVariants as piece
use Rattle.ink_print.specs.declared.step.Sign.{Sign}
use Rattle.ink_print.specs.declared.step.Sign.TheVariants as sign
use Rattle.ink_print.specs.Layout.{token_text}

-- the shape of a sign: the end of a line has none
abbrev pub shape_of_sign : Sign → Option Shape
shape_of_sign sign.Line = None
shape_of_sign sign.LeftParen = Some (shape.Mark mark.LeftParen)
shape_of_sign sign.RightParen = Some (shape.Mark mark.RightParen)
shape_of_sign sign.ImportParen = Some (shape.Mark mark.LeftParen)
shape_of_sign sign.LeftBracket = Some (shape.Mark mark.LeftBracket)
shape_of_sign sign.RightBracket = Some (shape.Mark mark.RightBracket)
shape_of_sign sign.BlockOpening = Some (shape.Mark mark.LeftBrace)
shape_of_sign sign.BlockClosing = Some (shape.Mark mark.RightBrace)
shape_of_sign sign.PatternOpening = Some (shape.Mark mark.LeftBrace)
shape_of_sign sign.PatternClosing = Some (shape.Mark mark.RightBrace)
shape_of_sign sign.TextOpening = Some shape.Opening
shape_of_sign sign.TextClosing = Some shape.Closing
shape_of_sign sign.Comma = Some (shape.Mark mark.Comma)
shape_of_sign sign.Dot = Some (shape.Mark mark.Dot)
shape_of_sign sign.Colon = Some (shape.Mark mark.Colon)
shape_of_sign sign.Equals = Some (shape.Mark mark.Equals)
shape_of_sign sign.Arrow = Some (shape.Mark mark.Arrow)
shape_of_sign sign.Plus = Some (shape.Mark mark.Plus)
shape_of_sign sign.Else = Some (shape.Keyword keyword.Else)
shape_of_sign sign.Enum = Some (shape.Keyword keyword.Enum)
shape_of_sign sign.For = Some (shape.Keyword keyword.For)
shape_of_sign sign.If = Some (shape.Keyword keyword.If)
shape_of_sign sign.Or = Some (shape.Keyword keyword.Or)

-- two tokens, each of its own source, of one shape and one text
pub record IsSameToken (source print : List ℕ) (t u : Terminal) : Type 0 where
  pub shape : u.shape ≡ t.shape
  pub text : token_text print u ≡ token_text source t

-- The tokens are these pieces. The first flag says whether the first of them begins a line, the second whether a token
-- behind them would.
pub data Spells (source print : List ℕ) : Bool → List Piece → List Terminal → Bool → Type 0 where
  nothing : {line : Bool} → Spells source print line [] [] line
  ends_line : {line end : Bool} {ps : List Piece} {ts : List Terminal} → Spells source print true ps ts end → Spells source print line (piece.Sign sign.Line ∷ ps) ts end
  token : {line end : Bool} {t u : Terminal} {ps : List Piece} {ts : List Terminal} → u.new_line ≡ line → IsSameToken source print t u → Spells source print false ps ts end → Spells source print line (piece.Token t ∷ ps) (u ∷ ts) end
  name : {line end : Bool} {t u : Terminal} {ps : List Piece} {ts : List Terminal} → u.new_line ≡ line → IsSameToken source print t u → Spells source print false ps ts end → Spells source print line (piece.Name t ∷ ps) (u ∷ ts) end
  a_sign : {line end : Bool} {s : Sign} {u : Terminal} {ps : List Piece} {ts : List Terminal} → u.new_line ≡ line → shape_of_sign s ≡ Some u.shape → Spells source print false ps ts end → Spells source print line (piece.Sign s ∷ ps) (u ∷ ts) end
