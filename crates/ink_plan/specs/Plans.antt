-- What ends at each exit, and how.
use Rattle.std.specs.Prelude.{◌≡◌, ◌<◌, ◌≤◌, ◌≢◌, ℕ, List, [], ◌∷◌, Option, Some, None, All, filter_map, replicate, reverse}
use Rattle.ink_forms.specs.Views as view
use Rattle.ink_forms.specs.declared.arena.Arena.{Arena}
use Rattle.ink_exits.specs.Exits.{exits_of_method, left}
use Rattle.ink_findings.specs.Moves.{fate_of}
use Rattle.ink_findings.specs.declared.moves.Moves.{Moves}
use Rattle.ink_findings.specs.declared.moves.Fate.{Fate}
use Rattle.ink_findings.specs.declared.moves.Fate.TheVariants as fate
use Rattle.ink_names.specs.declared.methods.MethodEntry.{MethodEntry}
use Rattle.ink_names.specs.Tables.{methods}
use Rattle.ink_names.specs.Resolutions.{at}
use Rattle.ink_names.specs.declared.resolution.Resolution.{Resolution}
use Rattle.ink_names.specs.declared.resolution.Resolution.TheVariants as resolution
use Rattle.ink_forms.specs.Trees.{Term, Var, SelfValue, Set}
use Rattle.ink_checked.specs.declared.checked.Checked.{Checked}
use Rattle.ink_plan.specs.declared.plan.How.{How}
use Rattle.ink_plan.specs.declared.plan.How.TheVariants as how
use Rattle.ink_plan.specs.declared.plan.Planned.{Planned}

-- of methods, one behind the other
abbrev pub exits_of_methods : Arena → List MethodEntry → List (List ℕ) → List (List ℕ)
exits_of_methods arena [] exits = exits
exits_of_methods arena (x ∷ xs) exits = exits_of_methods arena xs (exits_of_method (view.method arena x.node) exits)

-- the exits of all bodies of a module
abbrev pub exits_of_module : Checked → List (List ℕ)
exits_of_module checked =
    exits_of_methods checked.core.arena (methods checked.named.tables) (replicate (view.count checked.core.arena) [])

-- A variable whose value is there on each path ends surely, one on some path maybe, and one that is gone not at all.
-- Where nothing is said of it, it is there.
abbrev pub how_of : Option Fate → Option How
how_of None = Some how.Sure
how_of (Some fate.Live) = Some how.Sure
how_of (Some fate.Maybe) = Some how.Maybe
how_of (Some fate.Gone) = None

abbrev pub ended : ℕ → Option How → Option Planned
ended variable None = None
ended variable (Some x) = Some (record { variable = variable; how = x })

-- how a variable ends at an exit, if it does
abbrev pub ends : Moves → ℕ → ℕ → Option Planned
ends moves exit variable = ended variable (how_of (fate_of moves exit variable))

-- what ends of these at an exit, the last declared first
abbrev pub planned : Moves → ℕ → List ℕ → List Planned
planned moves exit variables = reverse (filter_map (ends moves exit) variables)

-- a variable is there on each path to an exit, or on none
abbrev pub IsCertain : Moves → ℕ → ℕ → Type 0
IsCertain moves exit variable = fate_of moves exit variable ≢ Some fate.Maybe

-- each of these is
abbrev pub AreCertain : Moves → ℕ → List ℕ → Type 0
AreCertain moves exit = All (IsCertain moves exit)

-- it ends surely
abbrev pub IsSure : Planned → Type 0
IsSure x = x.how ≡ how.Sure

-- the variable that a name stands for
abbrev pub variable_of : Resolution → List ℕ
variable_of (resolution.Variable variable) = variable ∷ []
variable_of (resolution.SelfOf method) = method ∷ []
variable_of other = []

-- the variable that a place is, if it is one
abbrev pub variable_at : List Resolution → Term → List ℕ
variable_at resolutions (Var s x) = variable_of (at resolutions s.number)
variable_at resolutions (SelfValue s) = variable_of (at resolutions s.number)
variable_at resolutions other = []

-- the variable whose old value a write ends
abbrev pub written : List Resolution → Term → List ℕ
written resolutions (Set s p a) = variable_at resolutions p
written resolutions other = []

-- what ends at a node, by what each leaves, is there on each path to it, or on none
pub record IsCertainAt (exits : List (List ℕ)) (checked : Checked) (node : ℕ) : Type 0 where
  pub leaves : AreCertain checked.found.moves node (left exits node)
  pub writes : AreCertain checked.found.moves node (written checked.named.resolutions (view.term checked.core.arena node))

-- so it is at each node from one to before another
abbrev pub IsCertainBetween : List (List ℕ) → Checked → ℕ → ℕ → Type 0
IsCertainBetween exits checked first end = (node : ℕ) → first ≤ node → node < end → IsCertainAt exits checked node
