-- Parts of a pattern, and the numbers that their patterns come before.
use Rattle.std.proofs.Common.{ℕ, List, All, slice_set}
use Rattle.std.proofs.lemmas.List.Elements.{All-set}
use Rattle.ink_arms.specs.Parts.{IsPartBefore}
use Rattle.ink_arms.specs.declared.parts.Part.{Part}

-- a part that comes before a number, in the place of another
pub set_before : (n : ℕ) (parts : List Part) (place : ℕ) (part : Part) → IsPartBefore n part → All (IsPartBefore n) parts → All (IsPartBefore n) (slice_set parts place part)
set_before n parts place part h all = All-set (IsPartBefore n) parts place part h all
