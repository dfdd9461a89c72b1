-- What names stand for, by the numbers of their nodes.
use Rattle.std.specs.Prelude.{ℕ, List, slice_index_or}
use Rattle.ink_names.specs.declared.resolution.Resolution.{Resolution}
use Rattle.ink_names.specs.declared.resolution.Resolution.TheVariants as resolution

-- what the name of a node stands for, and nothing past the end
abbrev pub at : List Resolution → ℕ → Resolution
at table node = slice_index_or table node resolution.Nothing
