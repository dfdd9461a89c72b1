-- Classes of bytes.
use Rattle.std.specs.Prelude.{ℕ, Bool, not, ◌||◌, ◌==◌}
use Rattle.std.specs.Char.{is_ascii_digit, is_ascii_hexdigit, is_ascii_lowercase, is_ascii_alphanumeric}
use Rattle.ink_tokens.specs.declared.bytes.Class.{Class}
use Rattle.ink_tokens.specs.declared.bytes.Class.TheVariants.{Word, Decimal, Hexadecimal, Comment}

-- letters, digits and _; digits and _; hexadecimal digits and _; all but a line feed
abbrev pub is_of : Class → ℕ → Bool
is_of Word byte = is_ascii_alphanumeric byte || byte == 95
is_of Decimal byte = is_ascii_digit byte || byte == 95
is_of Hexadecimal byte = is_ascii_hexdigit byte || byte == 95
is_of Comment byte = not (byte == 10)

-- a small letter or _
abbrev pub begins_name : ℕ → Bool
begins_name byte = is_ascii_lowercase byte || byte == 95

-- ' or "
abbrev pub is_quote : ℕ → Bool
is_quote byte = byte == 39 || byte == 34

-- n, t, a backslash, $ or a quote
abbrev pub is_escaped : ℕ → Bool
is_escaped byte = byte == 110 || byte == 116 || byte == 92 || byte == 36 || is_quote byte
