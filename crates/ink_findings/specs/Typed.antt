-- What was found of nodes, by their numbers.
use Rattle.std.specs.Prelude.{ℕ, List, Option, None, slice_index_or}
use Rattle.ink_findings.specs.declared.typed.Found.{Found}

-- what was found of a node, and nothing past the end
abbrev pub at : List (Option Found) → ℕ → Option Found
at table node = slice_index_or table node None
