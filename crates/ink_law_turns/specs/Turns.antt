-- Turns of processes, and the runs to which the turns of a journal lead.
use Rattle.std.specs.Prelude.{◌≡◌, ℕ, ◌+◌, true, Option, None, Some, List, [], ◌∷◌, ◌++◌, length}
use Rattle.ink_base.specs.Actions.{Action, Spawn, Panic, SharedState, is_enabled, as_made, after_action}
use Rattle.ink_base.specs.Numbered.{numbered, set_numbered}
use Rattle.ink_law_turns.specs.Machines.{Machine, ComesTo}

-- a run as it stands: its processes by number, what they share, and the process that panicked, with its text
pub record Run (P V : Type 0) : Type 0 where
  pub processes : List P
  pub shared : SharedState V
  pub panic : Option (ℕ × List ℕ)

-- the processes after an action: a spawn makes one more
abbrev pub with_started : {P V : Type 0} → Machine P V → Action V → List P → List P
with_started m (Spawn kind given) processes = processes ++ m.begun (length processes + 1) kind given ∷ []
with_started m other processes = processes

abbrev pub panic_by : {V : Type 0} → Action V → ℕ → Option (ℕ × List ℕ)
panic_by (Panic text) process = Some (process, text)
panic_by other process = None

-- a run after an action of a process, which left the process so
abbrev pub after_made : {P V : Type 0} → Machine P V → Action V → ℕ → P → Run P V → Run P V
after_made m made process left run =
    record {
      processes = with_started m made (set_numbered run.processes process left);
      shared = after_action made process run.shared;
      panic = panic_by made process;
    }

-- a turn of a process, in a run without a panic: it comes to an action that can be made, and makes it, or panics in its
-- place. Where its reply can't be put there is no turn
pub record Turn {P V : Type 0} (m : Machine P V) (limits : List ℕ) (process : ℕ) (old new : Run P V) : Type 0 where
  pub runs : old.panic ≡ None
  pub p : P
  pub stands : numbered old.processes process ≡ Some p
  pub wish : Action V
  pub waiting : P
  pub comes : ComesTo m p wish waiting
  pub enabled : is_enabled wish process old.shared ≡ true
  pub left : P
  pub replied : m.left (as_made wish old.shared limits) process old.shared waiting ≡ Some left
  pub after : new ≡ after_made m (as_made wish old.shared limits) process left old

-- the turns of a journal, in its order, lead from one run to another
abbrev pub Turns : {P V : Type 0} → Machine P V → List ℕ → Run P V → List ℕ → Run P V → Type 0
Turns m limits old [] new = old ≡ new
Turns {P} {V} m limits old (process ∷ journal) new = (mid : Run P V) × Turn m limits process old mid × Turns m limits mid journal new
