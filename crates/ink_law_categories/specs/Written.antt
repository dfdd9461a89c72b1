-- How the tokens of a tree are written in its source.
use Rattle.std.specs.Prelude.{◌≡◌, ◌<◌, ℕ, true, false, List, [], ◌∷◌, length, slice_index}
use Rattle.ink_base.specs.declared.token.TokenKind.{TokenKind}
use Rattle.ink_tokens.specs.Bytes.{is_quote}
use Rattle.ink_tokens.specs.Fault.{is_wide_integer}
use Rattle.ink_tokens.specs.Part.{part_length}
use Rattle.ink_tokens.specs.Spelling.{IsSpelled}
use Rattle.ink_shapes.specs.Terminals.{shape_by}
use Rattle.ink_grammar.specs.declared.token.Terminal.{Terminal}
use Rattle.ink_grammar.specs.declared.token.Shape.{Shape}
use Rattle.ink_grammar.specs.declared.symbol.Wanted.{Wanted}
use Rattle.ink_grammar.specs.Shapes.{is}
use Rattle.ink_print.specs.Layout.{token_text}

-- the token is spelled as one of its shape, quotes and the parts of a text aside
pub record IsWorded (source : List ℕ) (t : Terminal) : Type 0 where
  pub kind : TokenKind
  pub shape : shape_by kind (token_text source t) ≡ t.shape
  pub spelled : IsSpelled true (token_text source t) kind
  pub narrow : is_wide_integer kind (token_text source t) ≡ false

-- the byte of a quote
abbrev pub quote_of : List ℕ → Terminal → ℕ
quote_of source t = slice_index (token_text source t) 0

-- the token is written as a quote
pub record IsQuote (source : List ℕ) (t : Terminal) : Type 0 where
  pub quote : is_quote (quote_of source t) ≡ true
  pub alone : token_text source t ≡ quote_of source t ∷ []

-- the token is written as a part of a text in such quotes
pub record IsPartOf (source : List ℕ) (quote t : Terminal) : Type 0 where
  pub some : 0 < length (token_text source t)
  pub whole : part_length (quote_of source quote) (token_text source t) ≡ length (token_text source t)

-- a token of this shape
pub record IsToken (source : List ℕ) (x : Shape) (t : Terminal) : Type 0 where
  pub shape : t.shape ≡ x
  pub written : IsWorded source t

-- a token that is wanted so
pub record IsWanted (source : List ℕ) (w : Wanted) (t : Terminal) : Type 0 where
  pub shape : is w t.shape ≡ true
  pub written : IsWorded source t
