-- The fates of variables at exits.
use Rattle.std.specs.Prelude.{◌≡◌, ℕ, false, Option}
use Rattle.indexmap.specs.IndexMap.{get}
use Rattle.ink_names.specs.Pairs.{same_pair}
use Rattle.ink_findings.specs.declared.moves.Fate.{Fate}
use Rattle.ink_findings.specs.declared.moves.Moves.{Moves}

-- the fate of a variable at an exit, if it has one
abbrev pub fate_of : Moves → ℕ → ℕ → Option Fate
fate_of moves exit variable = get same_pair moves.fates (exit, variable)

-- each variable keeps its fate at each exit, or that it has none
abbrev pub Same : Moves → Moves → Type 0
Same old new = (exit variable : ℕ) → fate_of new exit variable ≡ fate_of old exit variable

-- each but this one at this exit
abbrev pub SameBut : ℕ → ℕ → Moves → Moves → Type 0
SameBut exit variable old new = (other some : ℕ) → same_pair (exit, variable) (other, some) ≡ false
    → fate_of new other some ≡ fate_of old other some
