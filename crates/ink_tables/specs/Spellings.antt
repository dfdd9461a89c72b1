-- Spellings by their places in a list.
use Rattle.std.specs.Prelude.{ℕ, List, [], ◌∷◌, ◌++◌, Option, unwrap_or, slice_get, if◌then◌else◌}
use Rattle.std.specs.List.{position_from, list_any}
use Rattle.std.specs.Str.{bytes_eq}

-- the number of a spelling, if it is among them
abbrev pub number_of : List (List ℕ) → List ℕ → Option ℕ
number_of spellings bytes = position_from (bytes_eq bytes) 0 spellings

-- the spelling of a number, or the empty one
abbrev pub spelling_of : List (List ℕ) → ℕ → List ℕ
spelling_of spellings number = unwrap_or (slice_get spellings number) []

-- a new spelling stands behind the others
abbrev pub with_spelling : List (List ℕ) → List ℕ → List (List ℕ)
with_spelling spellings bytes = if list_any (bytes_eq bytes) spellings then spellings else spellings ++ bytes ∷ []
