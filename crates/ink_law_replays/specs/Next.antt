-- What a process of a run comes to next by steps of its own, and whether that can be made.
use Rattle.std.specs.Prelude.{◌≡◌, ◌<◌, ℕ, true, false, None, Some, List, [], ◌∷◌, ◌++◌, ◌⊎◌}
use Rattle.ink_base.specs.Actions.{Action, Take, GetFuture, as_made, is_enabled}
use Rattle.ink_base.specs.Numbered.{numbered}
use Rattle.ink_law_turns.specs.Machines.{Machine, ComesTo, Fails, steps_on}
use Rattle.ink_law_turns.specs.Turns.{Run, Turn}

-- the next action of a process is this one
pub record IsNext {P V : Type 0} (m : Machine P V) (run : Run P V) (process : ℕ) (wish : Action V) : Type 0 where
  pub p : P
  pub stands : numbered run.processes process ≡ Some p
  pub waiting : P
  pub comes : ComesTo m p wish waiting

-- the next action of a process can be made
pub record IsReady {P V : Type 0} (m : Machine P V) (run : Run P V) (process : ℕ) : Type 0 where
  pub wish : Action V
  pub next : IsNext m run process wish
  pub enabled : is_enabled wish process run.shared ≡ true

-- its next action is a take, and it has no unread message
pub record IsAtTake {P V : Type 0} (m : Machine P V) (run : Run P V) (process : ℕ) : Type 0 where
  pub next : IsNext m run process Take
  pub waits : is_enabled {V = V} Take process run.shared ≡ false

-- its next action is a get, and the future is neither set nor broken
pub record IsAtGet {P V : Type 0} (m : Machine P V) (run : Run P V) (process : ℕ) : Type 0 where
  pub future : ℕ
  pub next : IsNext m run process (GetFuture future)
  pub waits : is_enabled {V = V} (GetFuture future) process run.shared ≡ false

-- it waits
abbrev pub Waits : {P V : Type 0} → Machine P V → Run P V → ℕ → Type 0
Waits m run process = IsAtTake m run process ⊎ IsAtGet m run process

-- it makes so many steps of its own, none of which comes to an action
pub record IsSpent {P V : Type 0} (m : Machine P V) (run : Run P V) (process steps : ℕ) : Type 0 where
  pub p : P
  pub stands : numbered run.processes process ≡ Some p
  pub q : P
  pub goes : steps_on m steps p ≡ Some q

-- each process is at a take, and has no unread message
abbrev pub AllAtTake : {P V : Type 0} → Machine P V → Run P V → Type 0
AllAtTake {P} m run = (process : ℕ) (p : P) → numbered run.processes process ≡ Some p → IsAtTake m run process

-- each process waits, and this is the least that is at a get
pub record IsLeastAtGet {P V : Type 0} (m : Machine P V) (run : Run P V) (process : ℕ) : Type 0 where
  pub waits : (other : ℕ) (p : P) → numbered run.processes other ≡ Some p → Waits m run other
  pub get : IsAtGet m run process
  pub least : (other : ℕ) (p : P) → numbered run.processes other ≡ Some p → other < process → IsAtTake m run other

-- the last entry of a journal is a panic of this process
pub record PanickedLast {P V : Type 0} (journal : List ℕ) (run : Run P V) (process : ℕ) : Type 0 where
  pub earlier : List ℕ
  pub last : journal ≡ earlier ++ process ∷ []
  pub text : List ℕ
  pub panic : run.panic ≡ Some (process, text)

-- it goes wrong: after steps of its own the next one can't be made, or the reply to its next action, which can be made,
-- can't be put
pub data GoesWrong {P V : Type 0} (m : Machine P V) (limits : List ℕ) (run : Run P V) (process : ℕ) : Type 0 where
  at_step : (p q : P) (steps : ℕ) → numbered run.processes process ≡ Some p → steps_on m steps p ≡ Some q → m.step q ≡ Fails
      → GoesWrong m limits run process
  at_reply : (wish : Action V) → (next : IsNext m run process wish) → is_enabled wish process run.shared ≡ true
      → m.left (as_made wish run.shared limits) process run.shared next.waiting ≡ None → GoesWrong m limits run process

-- it makes no turn
abbrev pub HasNoTurn : {P V : Type 0} → Machine P V → List ℕ → Run P V → ℕ → Type 0
HasNoTurn {P} {V} m limits run process = (new : Run P V) → Turn m limits process run new → ⊥
