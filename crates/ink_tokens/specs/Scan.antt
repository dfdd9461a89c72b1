-- A source that is read up to a place.
use Rattle.std.specs.Prelude.{ℕ, ◌+◌, Bool, true, false, if◌then◌else◌, List, [], ◌∷◌, ◌++◌, Option, None, slice_range}
use Rattle.ink_base.specs.declared.token.Token.{Token}
use Rattle.ink_tokens.specs.declared.reading.Before.{Before}
use Rattle.ink_tokens.specs.declared.reading.Before.TheVariants.{Start, LineFeed, Operand, Other}
use Rattle.ink_tokens.specs.declared.reading.Read.{Read}
use Rattle.ink_tokens.specs.declared.scanner.Scanner.{Scanner}
use Rattle.ink_tokens.specs.Fault.{wide_behind}
use Rattle.ink_tokens.specs.Nest.{Nest, nest_of, first_nest, changed}

-- the place, what stands before it, what is open there, where the first integer stands that doesn't fit, and the
-- tokens up to it
pub record Scan : Type 0 where
  pub at : ℕ
  pub before : Before
  pub nest : Nest
  pub wide : Option ℕ
  pub tokens : List Token

-- a scanner as it is seen here
abbrev pub scan_of : Scanner → Scan
scan_of scanner =
    record { at = scanner.at; before = scanner.before; nest = nest_of scanner.nesting; wide = scanner.wide; tokens = scanner.tokens.items }

-- at the first byte
abbrev pub start : Scan
start = record { at = 0; before = Start; nest = first_nest; wide = None; tokens = [] }

-- whether a line feed stands between a token and the one before
unfoldable pub begins_line : Before → Bool
begins_line Start = false
begins_line LineFeed = true
begins_line Operand = false
begins_line Other = false

-- behind a line feed: the first token of a source begins no line
unfoldable pub behind_line : Before → Before
behind_line Start = Start
behind_line LineFeed = LineFeed
behind_line Operand = LineFeed
behind_line Other = LineFeed

-- what stands before the place behind a blank or a comment
unfoldable pub gap_behind : Before → Bool → Before
gap_behind before line_feed = if line_feed then behind_line before else before

-- a token that begins at the place
abbrev pub token_at : Scan → Read → Token
token_at scan read =
    record { kind = read.kind; start = scan.at; end = scan.at + read.length; new_line = begins_line scan.before }

-- behind a blank or a comment
abbrev pub behind_gap : Scan → ℕ → Bool → Scan
behind_gap scan length line_feed =
    record scan { at = scan.at + length; before = gap_behind scan.before line_feed }

-- behind a token
abbrev pub behind_token : List ℕ → Scan → Read → Scan
behind_token source scan read =
    record {
      at = scan.at + read.length;
      before = read.before;
      nest = changed scan.nest read.change scan.at;
      wide = wide_behind scan.wide scan.at read.kind (slice_range source scan.at (scan.at + read.length));
      tokens = scan.tokens ++ token_at scan read ∷ [];
    }
