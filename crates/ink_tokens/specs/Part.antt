-- The parts of a text.
use Rattle.std.specs.Prelude.{ℕ, ◌+◌, Bool, ◌&&◌, ◌||◌, ◌==◌, if◌then◌else◌, List, [], ◌∷◌, length, slice_index}
use Rattle.ink_tokens.specs.Bytes.{is_escaped}

-- whether ${ stands at the front
abbrev pub begins_opening : List ℕ → Bool
begins_opening bytes = slice_index bytes 0 == 36 && slice_index bytes 1 == 123

-- the longest run of characters and escapes before the quote, a ${ or a backslash that begins no escape
unfoldable pub part_length : ℕ → List ℕ → ℕ
part_length quote [] = 0
part_length quote (last ∷ []) = if last == quote || last == 92 then 0 else 1
part_length quote (byte ∷ next ∷ rest) =
    if byte == quote || begins_opening (byte ∷ next ∷ rest) then 0
    else (if byte == 92 then (if is_escaped next then 2 + part_length quote rest else 0)
    else 1 + part_length quote (next ∷ rest))

-- how far one character's byte or one escape of such a run goes
unfoldable pub unit_length : ℕ → List ℕ → ℕ
unit_length quote bytes =
    if length bytes == 0 || slice_index bytes 0 == quote || begins_opening bytes then 0
    else (if slice_index bytes 0 == 92 then (if is_escaped (slice_index bytes 1) then 2 else 0)
    else 1)
