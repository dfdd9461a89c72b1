-- The marks.
use Rattle.std.specs.Prelude.{ℕ, Bool, List, [], ◌∷◌, Option, codes}
use Rattle.std.specs.List.{find, list_any}
use Rattle.std.specs.Str.{bytes_eq}
use Rattle.ink_grammar.specs.declared.token.Mark.{Mark}
use Rattle.ink_grammar.specs.declared.token.Mark.TheVariants as m

-- all of them
abbrev pub marks : List Mark
marks =
    m.LeftParen ∷ m.RightParen ∷ m.LeftBracket ∷ m.RightBracket ∷ m.LeftBrace ∷ m.RightBrace ∷ m.Comma ∷ m.Dot
    ∷ m.Colon ∷ m.Swap ∷ m.Equals ∷ m.Arrow ∷ m.Plus ∷ m.Operator ∷ m.OperatorEquals ∷ []

-- how each may be written
abbrev pub texts : Mark → List (List ℕ)
texts m.LeftParen = codes "(" ∷ []
texts m.RightParen = codes ")" ∷ []
texts m.LeftBracket = codes "[" ∷ []
texts m.RightBracket = codes "]" ∷ []
texts m.LeftBrace = codes "{" ∷ []
texts m.RightBrace = codes "}" ∷ []
texts m.Comma = codes "," ∷ []
texts m.Dot = codes "." ∷ []
texts m.Colon = codes ":" ∷ []
texts m.Swap = codes ":=" ∷ []
texts m.Equals = codes "=" ∷ []
texts m.Arrow = codes "->" ∷ []
texts m.Plus = codes "+" ∷ []
texts m.Operator =
    codes "-" ∷ codes "*" ∷ codes "/" ∷ codes "%" ∷ codes "==" ∷ codes "!=" ∷ codes "<" ∷ codes "<="
    ∷ codes ">" ∷ codes ">=" ∷ codes "&" ∷ codes "|" ∷ codes "^" ∷ codes "<<" ∷ codes ">>" ∷ []
texts m.OperatorEquals = codes "+=" ∷ codes "-=" ∷ codes "*=" ∷ codes "/=" ∷ codes "%=" ∷ []

-- whether a mark may be written so
unfoldable pub is_written : Mark → List ℕ → Bool
is_written mark written = list_any (λ text. bytes_eq text written) (texts mark)

-- the first of these marks that may be written so
abbrev pub first_written : List Mark → List ℕ → Option Mark
first_written marks written = find (λ mark. is_written mark written) marks

-- the mark that is written so
unfoldable pub mark_of : List ℕ → Option Mark
mark_of written = first_written marks written
