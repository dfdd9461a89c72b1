-- The value of an integer's spelling.
use Rattle.std.specs.Prelude.{ℕ, ◌-◌, ◌^◌, min, ℤ, pos, negsuc, ◌==◌, List, drop, slice_index, if◌then◌else◌}
use Rattle.ink_tokens.specs.Integer.{magnitude}

-- a number in the signed 64 bits, or the greatest of them
abbrev pub positive : ℕ → ℤ
positive number = pos (min number (2 ^ 63 - 1))

-- its negative, or the least of them
abbrev pub negative : ℕ → ℤ
negative number = if number == 0 then pos 0 else negsuc (min (number - 1) (2 ^ 63 - 1))

-- a - stands in front of the number's digits
unfoldable pub integer_value : List ℕ → ℤ
integer_value text = if slice_index text 0 == 45 then negative (magnitude (drop 1 text)) else positive (magnitude text)
