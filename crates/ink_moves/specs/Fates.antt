-- What becomes of a variable at an exit, by the paths that arrive there.
use Rattle.std.specs.Prelude.{Bool, true, false}
use Rattle.ink_findings.specs.declared.moves.Fate.{Fate}
use Rattle.ink_findings.specs.declared.moves.Fate.TheVariants as fates

-- by whether some path arrives with it moved, and whether some path arrives with it whole
abbrev pub fate : Bool → Bool → Fate
fate false whole = fates.Live
fate true false = fates.Gone
fate true true = fates.Maybe
