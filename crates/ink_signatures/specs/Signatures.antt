-- The types of written types, by the numbers of their nodes.
use Rattle.std.specs.Prelude.{ℕ, List, Option, None, slice_index_or}

-- the type of a written type, and none past the end
abbrev pub at : List (Option ℕ) → ℕ → Option ℕ
at table node = slice_index_or table node None
