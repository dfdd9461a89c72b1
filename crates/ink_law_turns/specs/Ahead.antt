-- The run after the turns of a journal and further steps of each process.
use Rattle.std.specs.Prelude.{◌≡◌, ◌≢◌, ℕ, Option, None, Some, List, [], ◌∷◌, length}
use Rattle.ink_base.specs.Numbered.{numbered, set_numbered}
use Rattle.ink_law_turns.specs.Machines.{Machine, steps_on}
use Rattle.ink_law_turns.specs.Turns.{Run, Turns}

-- the process of that number among these is q after as many steps as q counts
abbrev pub Led : {P V : Type 0} → Machine P V → List P → ℕ → P → Type 0
Led {P} m processes process q = (p : P) × (numbered processes process ≡ Some p) × (steps_on m (m.ran q) p ≡ Some q)

-- the process that made the panic, where there is one
abbrev pub panicked : Option (ℕ × List ℕ) → Option ℕ
panicked None = None
panicked (Some panic) = Some panic.0

-- each process is led from the one of its number after the turns; one that made a panic makes no further step
pub record Ahead {P V : Type 0} (m : Machine P V) (limits : List ℕ) (first : Run P V) (journal : List ℕ) (run : Run P V) : Type 0 where
  pub turned : Run P V
  pub turns : Turns m limits first journal turned
  pub count : length run.processes ≡ length turned.processes
  pub each : (process : ℕ) (q : P) → numbered run.processes process ≡ Some q → Led m turned.processes process q
  pub shared : run.shared ≡ turned.shared
  pub panic : run.panic ≡ turned.panic
  pub rests : (process : ℕ) → panicked run.panic ≡ Some process → numbered run.processes process ≡ numbered turned.processes process

-- after the turns of a journal and as many steps as it counts, the process of that number stands so
pub record StandsAt {P V : Type 0} (m : Machine P V) (limits : List ℕ) (first : Run P V) (journal : List ℕ) (process : ℕ) (q : P) : Type 0 where
  pub turned : Run P V
  pub turns : Turns m limits first journal turned
  pub led : Led m turned.processes process q

-- no entry is of this process
abbrev pub IsNotNamed : ℕ → List ℕ → Type 0
IsNotNamed process [] = Unit {0}
IsNotNamed process (entry ∷ journal) = (process ≢ entry) × IsNotNamed process journal

-- a run with another process at a number
abbrev pub with_process : {P V : Type 0} → ℕ → P → Run P V → Run P V
with_process process p run = record run { processes = set_numbered run.processes process p }
