-- Tokens as the grammar sees them.
use Rattle.std.specs.Prelude.{ℕ, ◌==◌, if◌then◌else◌, List, Option, None, Some}
use Rattle.std.specs.List.{list_any}
use Rattle.ink_base.specs.declared.token.TokenKind.{TokenKind}
use Rattle.ink_base.specs.declared.token.TokenKind.TheVariants as kind
use Rattle.ink_base.specs.declared.token.Token as scanned
use Rattle.ink_base.specs.Token.{token_text}
use Rattle.ink_grammar.specs.declared.token.Keyword.{Keyword}
use Rattle.ink_grammar.specs.declared.token.Mark.{Mark}
use Rattle.ink_grammar.specs.declared.token.Mark.TheVariants.{Operator}
use Rattle.ink_grammar.specs.declared.token.Shape.{Shape}
use Rattle.ink_grammar.specs.declared.token.Shape.TheVariants as shape
use Rattle.ink_grammar.specs.declared.token.Terminal.{Terminal}
use Rattle.ink_shapes.specs.Keywords.{keyword_of}
use Rattle.ink_shapes.specs.Marks.{mark_of}

-- an integer with an x is hexadecimal
unfoldable pub integer_shape : List ℕ → Shape
integer_shape text = if list_any (λ byte. byte == 120) text then shape.Hexadecimal else shape.Integer

-- a word that is no keyword is a name
unfoldable pub keyword_shape : Option Keyword → Shape
keyword_shape (Some keyword) = shape.Keyword keyword
keyword_shape None = shape.Name

-- a symbol that is no other mark is an operator
unfoldable pub mark_shape : Option Mark → Shape
mark_shape (Some mark) = shape.Mark mark
mark_shape None = shape.Mark Operator

-- the shape of a token of this kind and text
unfoldable pub shape_by : TokenKind → List ℕ → Shape
shape_by kind.Name text = shape.Name
shape_by kind.Const text = shape.Constant
shape_by kind.Field text = shape.Field
shape_by kind.Int text = integer_shape text
shape_by kind.Symbol text = mark_shape (mark_of text)
shape_by kind.Keyword text = keyword_shape (keyword_of text)
shape_by kind.Underscore text = shape.Underscore
shape_by kind.Quote text = shape.Quote
shape_by kind.Part text = shape.TextPart
shape_by kind.Opening text = shape.Opening
shape_by kind.Closing text = shape.Closing

-- the shape of a token of a source
abbrev pub shape_of : List ℕ → scanned.Token → Shape
shape_of source token = shape_by token.kind (token_text token source)

-- a token of a source as the grammar sees it
abbrev pub terminal_of : List ℕ → scanned.Token → Terminal
terminal_of source token =
    record { shape = shape_of source token; start = token.start; end = token.end; new_line = token.new_line }
