-- How far integers run, and what they are worth.
use Rattle.std.specs.Prelude.{ℕ, ◌+◌, ◌-◌, ◌*◌, ◌^◌, Bool, ◌&&◌, ◌==◌, nat_lt, max, if◌then◌else◌, List, take, drop, fold, slice_index}
use Rattle.std.specs.List.{prefix_len, list_any}
use Rattle.std.specs.Char.{is_ascii_digit, is_ascii_hexdigit, digit_value}
use Rattle.ink_tokens.specs.declared.bytes.Class.TheVariants.{Decimal, Hexadecimal}
use Rattle.ink_tokens.specs.Bytes.{is_of}

-- a digit, then digits and _
unfoldable pub decimal_length : List ℕ → ℕ
decimal_length bytes = if is_ascii_digit (slice_index bytes 0) then prefix_len (is_of Decimal) bytes else 0

-- whether 0x stands at the front
unfoldable pub begins_hexadecimal : List ℕ → Bool
begins_hexadecimal bytes = slice_index bytes 0 == 48 && slice_index bytes 1 == 120

-- the hexadecimal digits and _ at the front
abbrev pub hexadecimal_run : List ℕ → ℕ
hexadecimal_run bytes = prefix_len (is_of Hexadecimal) bytes

-- 0x, then hexadecimal digits and _ with at least one digit
unfoldable pub hexadecimal_length : List ℕ → ℕ
hexadecimal_length bytes =
    if begins_hexadecimal bytes
    then (let run = hexadecimal_run (drop 2 bytes) in if list_any is_ascii_hexdigit (take run (drop 2 bytes)) then 2 + run else 0)
    else 0

-- an integer without a sign
unfoldable pub unsigned_length : List ℕ → ℕ
unsigned_length bytes = max (decimal_length bytes) (hexadecimal_length bytes)

-- whether a - stands directly before a digit
unfoldable pub begins_signed : List ℕ → Bool
begins_signed bytes = slice_index bytes 0 == 45 && is_ascii_digit (slice_index bytes 1)

-- an integer, with its sign where a - may belong to it
unfoldable pub integer_length : Bool → List ℕ → ℕ
integer_length may_be_signed bytes =
    if may_be_signed && begins_signed bytes then 1 + unsigned_length (drop 1 bytes) else unsigned_length bytes

-- the number so far, with one byte more: a _ counts for nothing
unfoldable pub number_behind : ℕ → ℕ → ℕ → ℕ
number_behind base number byte = if byte == 95 then number else number * base + digit_value byte

-- the number that digits spell
abbrev pub number_of : ℕ → List ℕ → ℕ
number_of base digits = fold (number_behind base) 0 digits

-- the number that an integer without a sign spells
abbrev pub magnitude : List ℕ → ℕ
magnitude text = if begins_hexadecimal text then number_of 16 (drop 2 text) else number_of 10 text

-- whether an integer is outside the signed 64 bits
unfoldable pub is_too_wide : List ℕ → Bool
is_too_wide text =
    if slice_index text 0 == 45 then nat_lt (2 ^ 63) (magnitude (drop 1 text)) else nat_lt (2 ^ 63 - 1) (magnitude text)
