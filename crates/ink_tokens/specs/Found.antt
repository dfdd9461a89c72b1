-- What stands at a place of a source.
use Rattle.std.specs.Prelude.{ℕ, ◌<◌, ◌≤◌, Bool, true, false, ◌==◌, nat_lt, if◌then◌else◌, List, length, take, Option, None, Some, slice_index}
use Rattle.ink_base.specs.declared.token.TokenKind.{TokenKind}
use Rattle.ink_base.specs.declared.token.TokenKind.TheVariants as kind
use Rattle.ink_tokens.specs.declared.reading.Level.{Level}
use Rattle.ink_tokens.specs.declared.reading.Level.TheVariants.{Outside, Text, Embedded, Braces}
use Rattle.ink_tokens.specs.declared.reading.Before.{Before}
use Rattle.ink_tokens.specs.declared.reading.Before.TheVariants.{Start, LineFeed, Operand, Other}
use Rattle.ink_tokens.specs.declared.reading.Change.TheVariants.{Stay, Enter, Leave}
use Rattle.ink_tokens.specs.declared.reading.Match.{Match}
use Rattle.ink_tokens.specs.declared.reading.Read.{Read}
use Rattle.ink_tokens.specs.declared.reading.Found.{Found}
use Rattle.ink_tokens.specs.declared.reading.Found.TheVariants.{Gap, Token, Nothing}
use Rattle.ink_tokens.specs.Bytes.{is_quote}
use Rattle.ink_tokens.specs.Gap.{separator_length}
use Rattle.ink_tokens.specs.Integer.{integer_length}
use Rattle.ink_tokens.specs.Part.{part_length, begins_opening}
use Rattle.ink_tokens.specs.Words.{name_length, const_length, field_length, symbol_length, word_kind, ends_bracket, is_value_word}

-- the longer of two matches
unfoldable pub longer : Match → Match → Match
longer one other = if nat_lt one.length other.length then other else one

-- a word that begins as a name does
unfoldable pub name_match : List ℕ → Match
name_match bytes = record { kind = word_kind (take (name_length bytes) bytes); length = name_length bytes }

-- the longest match at the front, quotes aside
unfoldable pub match_at : Bool → List ℕ → Match
match_at may_be_signed bytes =
    longer
    (longer (name_match bytes) (longer (record { kind = kind.Const; length = const_length bytes }) (record { kind = kind.Field; length = field_length bytes })))
    (longer (record { kind = kind.Int; length = integer_length may_be_signed bytes }) (record { kind = kind.Symbol; length = symbol_length bytes }))

-- whether a token ends what a - behind it subtracts from, quotes aside
unfoldable pub ends_operand : TokenKind → List ℕ → Bool
ends_operand kind.Name text = true
ends_operand kind.Const text = true
ends_operand kind.Field text = true
ends_operand kind.Int text = true
ends_operand kind.Symbol text = ends_bracket (slice_index text 0)
ends_operand kind.Keyword text = is_value_word text
ends_operand kind.Underscore text = false
ends_operand kind.Quote text = false
ends_operand kind.Part text = false
ends_operand kind.Opening text = false
ends_operand kind.Closing text = false

-- what stands before the place behind a token
unfoldable pub before_behind : TokenKind → List ℕ → Before
before_behind kind text = if ends_operand kind text then Operand else Other

-- a { inside a ${
abbrev pub opened_brace : Read
opened_brace = record { kind = kind.Symbol; length = 1; change = Enter Braces; before = Other }

-- the } that is paired with it
abbrev pub closed_brace : Read
closed_brace = record { kind = kind.Symbol; length = 1; change = Leave; before = Operand }

-- the } that belongs to the ${
abbrev pub closing : Read
closing = record { kind = kind.Closing; length = 1; change = Leave; before = Other }

-- the brace that begins with a byte, where braces are paired
unfoldable pub brace_at : Level → ℕ → Option Read
brace_at Outside first = None
brace_at (Text quote) first = None
brace_at Embedded first = if first == 123 then Some opened_brace else (if first == 125 then Some closing else None)
brace_at Braces first = if first == 123 then Some opened_brace else (if first == 125 then Some closed_brace else None)

-- the quote that opens a text
abbrev pub opening_quote : ℕ → Read
opening_quote quote = record { kind = kind.Quote; length = 1; change = Enter (Text quote); before = Other }

-- the quote or the brace that begins with a byte: no other token begins so
unfoldable pub mark_at : Level → ℕ → Option Read
mark_at level first = if is_quote first then Some (opening_quote first) else brace_at level first

-- whether a - belongs to the digit behind it: where no token stands before it, or it begins a line, or the token
-- before is no operand
unfoldable pub may_be_signed : Before → Bool
may_be_signed Start = true
may_be_signed LineFeed = true
may_be_signed Other = true
may_be_signed Operand = false

-- a match as a token, if it takes a byte
unfoldable pub match_found : Match → List ℕ → Found
match_found longest bytes =
    if longest.length == 0 then Nothing
    else Token (record { kind = longest.kind; length = longest.length; change = Stay; before = before_behind longest.kind (take longest.length bytes) })

-- a mark, or else the longest match
unfoldable pub token_found : Option Read → Match → List ℕ → Found
token_found (Some mark) longest bytes = Token mark
token_found None longest bytes = match_found longest bytes

-- what stands at the front outside of texts, or in a ${: a blank or a comment, or else a token
unfoldable pub code_found : Level → Before → List ℕ → Found
code_found level before bytes =
    if nat_lt 0 (separator_length bytes) then Gap (separator_length bytes) (slice_index bytes 0 == 10)
    else token_found (mark_at level (slice_index bytes 0)) (match_at (may_be_signed before) bytes) bytes

-- the quote that closes a text
abbrev pub closing_quote : Read
closing_quote = record { kind = kind.Quote; length = 1; change = Leave; before = Operand }

-- a ${
abbrev pub opening : Read
opening = record { kind = kind.Opening; length = 2; change = Enter Embedded; before = Other }

-- a part of a text
abbrev pub part_of : ℕ → Read
part_of length = record { kind = kind.Part; length = length; change = Stay; before = Other }

-- what stands at the front in a text: its quote, a ${, or a part
unfoldable pub text_found : ℕ → List ℕ → Found
text_found quote bytes =
    if slice_index bytes 0 == quote then Token closing_quote
    else (if begins_opening bytes then Token opening
    else (if part_length quote bytes == 0 then Nothing
    else Token (part_of (part_length quote bytes))))

-- what stands at the front
unfoldable pub found_at : Level → Before → List ℕ → Found
found_at (Text quote) before bytes = text_found quote bytes
found_at Outside before bytes = code_found Outside before bytes
found_at Embedded before bytes = code_found Embedded before bytes
found_at Braces before bytes = code_found Braces before bytes

-- it takes at least a byte, and no more than there are
abbrev pub IsWithin : ℕ → Found → Type 0
IsWithin count (Gap length line_feed) = (0 < length) × (length ≤ count)
IsWithin count (Token read) = (0 < read.length) × (read.length ≤ count)
IsWithin count Nothing = Unit {0}
