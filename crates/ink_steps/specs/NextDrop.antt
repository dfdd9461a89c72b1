-- The drop that is next.
use Rattle.std.specs.Prelude.{Err, List, [], ◌∷◌}
use Rattle.ink_base.specs.declared.value.Value.{Value}
use Rattle.ink_code.specs.declared.code.Code.{Code}
use Rattle.ink_code.specs.declared.wrong.Wrong.TheVariants as wrong
use Rattle.ink_code.specs.Drops.{drop_next}
use Rattle.ink_code.specs.Machine.{Outcome}
use Rattle.ink_code.specs.Process.{Process}

-- the drop of the first of the values that wait
abbrev pub first_drop : Code → List Value → Process → Outcome
first_drop code [] p = Err wrong.Absent
first_drop code (value ∷ left) p = drop_next code value left p
