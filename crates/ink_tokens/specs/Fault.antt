-- What is wrong with a source, and which of two faults is told.
use Rattle.std.specs.Prelude.{ℕ, Bool, false, nat_lt, if◌then◌else◌, List, Option, None, Some}
use Rattle.ink_base.specs.declared.token.TokenKind.{TokenKind}
use Rattle.ink_base.specs.declared.token.TokenKind.TheVariants as kind
use Rattle.ink_base.specs.declared.refusal.Rule.{Rule}
use Rattle.ink_base.specs.declared.refusal.Rule.TheVariants.{IntTooWide, UnendedText}
use Rattle.ink_base.specs.declared.refusal.Refusal.{Refusal}
use Rattle.ink_text.specs.Place.{place_at}
use Rattle.ink_tokens.specs.declared.reading.Level.{Level}
use Rattle.ink_tokens.specs.declared.reading.Level.TheVariants.{Outside, Text, Embedded, Braces}
use Rattle.ink_tokens.specs.declared.fault.Fault.{Fault}
use Rattle.ink_tokens.specs.Integer.{is_too_wide}

-- whether a token is an integer outside the signed 64 bits
unfoldable pub is_wide_integer : TokenKind → List ℕ → Bool
is_wide_integer kind.Int text = is_too_wide text
is_wide_integer kind.Name text = false
is_wide_integer kind.Const text = false
is_wide_integer kind.Field text = false
is_wide_integer kind.Symbol text = false
is_wide_integer kind.Keyword text = false
is_wide_integer kind.Underscore text = false
is_wide_integer kind.Quote text = false
is_wide_integer kind.Part text = false
is_wide_integer kind.Opening text = false
is_wide_integer kind.Closing text = false

-- the place of the first such integer, once a token at a place is read
unfoldable pub wide_behind : Option ℕ → ℕ → TokenKind → List ℕ → Option ℕ
wide_behind (Some first) at kind text = Some first
wide_behind None at kind text = if is_wide_integer kind text then Some at else None

-- a fault at a byte, or that integer where its byte is not greater
unfoldable pub first_fault : Option ℕ → Rule → ℕ → Fault
first_fault None rule byte = record { rule = rule; byte = byte }
first_fault (Some first) rule byte =
    if nat_lt byte first then record { rule = rule; byte = byte } else record { rule = IntTooWide; byte = first }

-- what is wrong at the end: a text that isn't closed, at the outermost open quote, or that integer
unfoldable pub end_fault : Level → Option ℕ → ℕ → Option Fault
end_fault Outside None opened = None
end_fault Outside (Some first) opened = Some (record { rule = IntTooWide; byte = first })
end_fault (Text quote) wide opened = Some (first_fault wide UnendedText opened)
end_fault Embedded wide opened = Some (first_fault wide UnendedText opened)
end_fault Braces wide opened = Some (first_fault wide UnendedText opened)

-- a fault as it is told
abbrev pub refusal_at : List ℕ → Fault → Refusal
refusal_at source fault = record { rule = fault.rule; place = place_at source fault.byte; detail = None }
