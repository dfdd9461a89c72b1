-- Methods that never test whether a variable is there.
use Rattle.std.specs.Prelude.{◌≡◌, ◌+◌, ℕ, List, [], ◌∷◌}
use Rattle.ink_code.specs.declared.method.Method.{Method}
use Rattle.ink_checked.specs.declared.checked.Checked.{Checked}
use Rattle.ink_names.specs.declared.methods.MethodEntry.{MethodEntry}
use Rattle.ink_names.specs.Tables.{methods}
use Rattle.ink_plan.specs.Plans.{IsCertainBetween, exits_of_module}
use Rattle.ink_ranges.specs.Ranges.{HasNoTests}

-- A method makes no test where all that ends at its nodes is there on each path or on none. Its nodes stand from the first
-- behind the method before to its own.
abbrev pub AskOnlyWhereUncertain : List (List ℕ) → Checked → ℕ → List MethodEntry → List Method → Type 0
AskOnlyWhereUncertain exits checked first [] ms = ms ≡ []
AskOnlyWhereUncertain exits checked first (e ∷ es) [] = ⊥
AskOnlyWhereUncertain exits checked first (e ∷ es) (m ∷ ms) =
    (IsCertainBetween exits checked first (e.node + 1) → HasNoTests m) × AskOnlyWhereUncertain exits checked (e.node + 1) es ms

-- each method of a code is the one that is declared at its place, and makes no test where none is needed
abbrev pub TestsOnlyWhereUncertain : Checked → List Method → Type 0
TestsOnlyWhereUncertain checked ms = AskOnlyWhereUncertain (exits_of_module checked) checked 0 (methods checked.named.tables) ms
