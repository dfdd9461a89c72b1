-- What a token says by its spelling.
use Rattle.std.specs.Prelude.{ℕ, Bool, true, false, ◌&&◌, nat_le, if◌then◌else◌, List, [], ◌∷◌, length, drop, slice_range, unwrap_or, codes, nat_eq, ◌==◌, Option, Some, None, get_or}
use Rattle.std.specs.List.{starts_with}
use Rattle.std.specs.Str.{bytes_eq}
use Rattle.ink_base.specs.declared.ident.BorrowKind.{BorrowKind}
use Rattle.ink_base.specs.declared.ident.BorrowKind.TheVariants as borrow
use Rattle.ink_grammar.specs.declared.token.Keyword.TheVariants as keyword
use Rattle.ink_grammar.specs.declared.token.Shape.{Shape}
use Rattle.ink_grammar.specs.declared.token.Shape.TheVariants as shape
use Rattle.ink_grammar.specs.declared.token.Terminal.{Terminal}
use Rattle.ink_forms.specs.declared.expr.Operator.{Operator}
use Rattle.ink_forms.specs.declared.expr.Operator.TheVariants as operator
use Rattle.ink_forms.specs.declared.word.Identifier.{Identifier}
use Rattle.ink_forms.specs.declared.word.Literal.{Literal}
use Rattle.ink_forms.specs.declared.word.Literal.TheVariants as literal
use Rattle.ink_forms.specs.declared.word.Made.{Made}
use Rattle.ink_forms.specs.declared.word.Made.TheVariants as made
use Rattle.ink_tables.specs.Integers as integers
use Rattle.ink_tables.specs.Spellings as spellings
use Rattle.ink_tables.specs.Unescaped.{unescaped}
use Rattle.ink_tables.specs.Value.{integer_value}
use Rattle.ink_lexicon.specs.declared.surface.Surface.{Surface}

-- the bytes of a token
abbrev pub spelling : List ℕ → Terminal → List ℕ
spelling source token =
    if nat_le token.start token.end && nat_le token.end (length source) then slice_range source token.start token.end else []

abbrev pub behind_first : List ℕ → List ℕ
behind_first [] = []
behind_first (byte ∷ bytes) = bytes

-- the spelling of a name: a field's has no @
unfoldable pub name_spelling : List ℕ → Shape → Terminal → List ℕ
name_spelling source shape.Field token = behind_first (spelling source token)
name_spelling source _ token = spelling source token

-- the number of what is in no table
abbrev pub no_word : ℕ
no_word = 4294967295

-- the number of a name
abbrev pub name : Surface → Terminal → ℕ
name x token = unwrap_or (spellings.number_of x.words.now.names (name_spelling x.source.now token.shape token)) no_word

-- the number of a spelling
abbrev pub number_of : Surface → List ℕ → ℕ
number_of x bytes = unwrap_or (spellings.number_of x.words.now.names bytes) no_word

-- a name, and where it is written
abbrev pub identifier : Surface → Terminal → Identifier
identifier x token = record { name = name x token; place = token.start }

-- the number of a written integer
abbrev pub integer : Surface → Terminal → ℕ
integer x token = unwrap_or (integers.number_of x.words.now.integers (integer_value (spelling x.source.now token))) no_word

-- the number of a text
abbrev pub text_number : Surface → List ℕ → ℕ
text_number x bytes = unwrap_or (spellings.number_of x.words.now.texts bytes) no_word

-- a written integer, the part of a text that a token is, and the text without bytes
abbrev pub integer_literal : Surface → Terminal → Literal
integer_literal x token = literal.Int (integer x token)

abbrev pub text_literal : Surface → Terminal → Literal
text_literal x token = literal.Text (text_number x (unescaped (spelling x.source.now token)))

abbrev pub empty_literal : Surface → Literal
empty_literal x = literal.Text (text_number x [])

-- what a name with a capital letter makes: a constructor of Option or Result by its spelling, else what it names
unfoldable pub made_of : Surface → Terminal → Made
made_of x token =
    let bytes = spelling x.source.now token in
    if bytes_eq bytes (codes "Some") then made.Some
    else if bytes_eq bytes (codes "None") then made.None
    else if bytes_eq bytes (codes "Ok") then made.Ok
    else if bytes_eq bytes (codes "Error") then made.Error
    else made.Named (name x token)

-- the kind of a borrow, by its word
unfoldable pub borrow_kind : Shape → BorrowKind
borrow_kind (shape.Keyword keyword.Mut) = borrow.Mut
borrow_kind _ = borrow.Ref

-- the operators of two characters, and those of one
unfoldable pub long_operator : List ℕ → Option Operator
long_operator bytes =
    if starts_with nat_eq bytes (codes "==") then Some operator.Equal
    else if starts_with nat_eq bytes (codes "!=") then Some operator.NotEqual
    else if starts_with nat_eq bytes (codes "<=") then Some operator.LessOrEqual
    else if starts_with nat_eq bytes (codes ">=") then Some operator.GreaterOrEqual
    else if starts_with nat_eq bytes (codes "<<") then Some operator.ShiftLeft
    else if starts_with nat_eq bytes (codes ">>") then Some operator.ShiftRight
    else None

unfoldable pub short_operator : ℕ → Operator
short_operator byte =
    if byte == 45 then operator.Subtract
    else if byte == 42 then operator.Multiply
    else if byte == 47 then operator.Divide
    else if byte == 37 then operator.Remainder
    else if byte == 60 then operator.Less
    else if byte == 62 then operator.Greater
    else if byte == 38 then operator.And
    else if byte == 124 then operator.Or
    else if byte == 94 then operator.ExclusiveOr
    else operator.Add

abbrev pub operator_or : Option Operator → Operator → Operator
operator_or (Some found) other = found
operator_or None other = other

-- the operator of a token, or what stands before its =
unfoldable pub operator_of : Surface → Terminal → Operator
operator_of x token = let bytes = spelling x.source.now token in operator_or (long_operator bytes) (short_operator (get_or bytes 0 0))
