-- The texts of the panics that aren't a program's own, but for those of the limits.
use Rattle.std.specs.Prelude.{ℕ, ℤ, ◌==◌, if◌then◌else◌, List, ◌++◌, codes}
use Rattle.std.specs.Fmt.{decimal, signed_decimal}

abbrev pub overflow_text : List ℕ
overflow_text = codes "integer overflow"

abbrev pub division_text : List ℕ
division_text = codes "division by zero"

abbrev pub shift_text : List ℕ
shift_text = codes "shift out of range"

abbrev pub no_value_text : List ℕ
no_value_text = codes "option is None"

abbrev pub cycle_text : List ℕ
cycle_text = codes "ownership cycle"

abbrev pub broken_text : List ℕ
broken_text = codes "future is broken"

-- an index that isn't from 0 to before the size
abbrev pub index_text : ℤ → ℕ → List ℕ
index_text index size = codes "index " ++ signed_decimal index ++ codes " is out of bounds, size " ++ decimal size

-- the drop of an object of the named type that still has so many borrows
abbrev pub drop_text : List ℕ → ℕ → List ℕ
drop_text name borrows =
    codes "cannot drop " ++ name ++ codes ": " ++ decimal borrows ++ (if borrows == 1 then codes " borrow" else codes " borrows")
