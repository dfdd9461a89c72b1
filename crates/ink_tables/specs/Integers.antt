-- Integers by their places in a list, and the value of an integer's spelling.
use Rattle.std.specs.Prelude.{ℕ, ℤ, pos, List, [], ◌∷◌, ◌++◌, Option, unwrap_or, slice_get, if◌then◌else◌}
use Rattle.std.specs.List.{position_from, list_any}
use Rattle.std.specs.Ordering.{int_eq}

-- the number of an integer, if it is among them
abbrev pub number_of : List ℤ → ℤ → Option ℕ
number_of integers value = position_from (int_eq value) 0 integers

-- the integer of a number, or 0
abbrev pub integer_of : List ℤ → ℕ → ℤ
integer_of integers number = unwrap_or (slice_get integers number) (pos 0)

-- a new integer stands behind the others
abbrev pub with_integer : List ℤ → ℤ → List ℤ
with_integer integers value = if list_any (int_eq value) integers then integers else integers ++ value ∷ []
