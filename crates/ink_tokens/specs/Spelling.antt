-- How tokens are spelled, without a place.
use Rattle.std.specs.Prelude.{◌≡◌, ℕ, ◌-◌, ◌⊎◌, Bool, true, List, length, take, drop, slice_index}
use Rattle.std.specs.List.{list_all, list_any}
use Rattle.std.specs.Char.{is_ascii_digit, is_ascii_hexdigit, is_ascii_uppercase}
use Rattle.ink_base.specs.declared.token.TokenKind.{TokenKind}
use Rattle.ink_base.specs.declared.token.TokenKind.TheVariants as kind
use Rattle.ink_tokens.specs.declared.bytes.Class.{Class}
use Rattle.ink_tokens.specs.declared.bytes.Class.TheVariants.{Word, Decimal, Hexadecimal}
use Rattle.ink_tokens.specs.Bytes.{is_of, begins_name}
use Rattle.ink_tokens.specs.Words.{is_pair, is_single, word_kind}

-- each byte is of the class
abbrev pub AllOf : Class → List ℕ → Type 0
AllOf class text = list_all (is_of class) text ≡ true

-- a text but for its last byte
abbrev pub but_last : List ℕ → List ℕ
but_last text = take (length text - 1) text

-- letters, digits and _, and then at most one ?
abbrev pub IsNameTail : List ℕ → Type 0
IsNameTail text = AllOf Word text ⊎ (AllOf Word (but_last text) × (slice_index text (length text - 1) ≡ 63))

-- it begins with a small letter or _
abbrev pub IsName : List ℕ → Type 0
IsName text = (begins_name (slice_index text 0) ≡ true) × IsNameTail text

-- a capital letter, then letters, digits and _
abbrev pub IsConst : List ℕ → Type 0
IsConst text = (is_ascii_uppercase (slice_index text 0) ≡ true) × AllOf Word text

-- @, then a name without ?
abbrev pub IsField : List ℕ → Type 0
IsField text = (slice_index text 0 ≡ 64) × (begins_name (slice_index text 1) ≡ true) × AllOf Word (drop 1 text)

-- a digit, then digits and _
abbrev pub IsDecimal : List ℕ → Type 0
IsDecimal text = (is_ascii_digit (slice_index text 0) ≡ true) × AllOf Decimal text

-- 0x, then hexadecimal digits and _ with at least one digit
abbrev pub IsHexadecimal : List ℕ → Type 0
IsHexadecimal text =
    (slice_index text 0 ≡ 48) × (slice_index text 1 ≡ 120) × AllOf Hexadecimal (drop 2 text)
    × (list_any is_ascii_hexdigit (drop 2 text) ≡ true)

-- an integer without a sign
abbrev pub IsUnsigned : List ℕ → Type 0
IsUnsigned text = IsDecimal text ⊎ IsHexadecimal text

-- an integer with a sign, where it may have one
abbrev pub IsSigned : Bool → List ℕ → Type 0
IsSigned may_be_signed text =
    (may_be_signed ≡ true) × (slice_index text 0 ≡ 45) × (is_ascii_digit (slice_index text 1) ≡ true) × IsUnsigned (drop 1 text)

-- an integer
abbrev pub IsInteger : Bool → List ℕ → Type 0
IsInteger may_be_signed text = IsUnsigned text ⊎ IsSigned may_be_signed text

-- a symbol of two bytes or of one
abbrev pub IsSymbol : List ℕ → Type 0
IsSymbol text =
    ((length text ≡ 2) × (is_pair text ≡ true)) ⊎ ((length text ≡ 1) × (is_single (slice_index text 0) ≡ true))

-- a token of a kind, quotes and the tokens of a text aside
pub data IsSpelled (may_be_signed : Bool) (text : List ℕ) : TokenKind → Type 0 where
  spelled_name : IsName text → IsSpelled may_be_signed text (word_kind text)
  spelled_const : IsConst text → IsSpelled may_be_signed text kind.Const
  spelled_field : IsField text → IsSpelled may_be_signed text kind.Field
  spelled_integer : IsInteger may_be_signed text → IsSpelled may_be_signed text kind.Int
  spelled_symbol : IsSymbol text → IsSpelled may_be_signed text kind.Symbol
