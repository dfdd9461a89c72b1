-- What a world claims: it is ahead of its journal, also while processes are lent.
use Rattle.std.specs.Prelude.{◌≡◌, ◌≤◌, ℕ, false, true, Option, None, Some, IfSome, List, length}
use Rattle.ink_base.specs.declared.limits.Limit.TheVariants as limit
use Rattle.ink_base.specs.Actions.{Action, Take, GetFuture, SharedState, is_enabled}
use Rattle.ink_base.specs.Limits.{limit_of}
use Rattle.ink_base.specs.Numbered.{numbered}
use Rattle.ink_law_turns.specs.Ahead.{Ahead, StandsAt, panicked}
use Rattle.ink_law_turns.specs.Machines.{Machine, Comes, IsLike}
use Rattle.ink_law_turns.specs.Turns.{Run}
use Rattle.ink_worlds.specs.State.{State, Came, Went, GivesUp, Wants, Spent}
use Rattle.ink_worlds.specs.declared.halt.Halt.{Halt}
use Rattle.ink_worlds.specs.declared.halt.Halt.TheVariants.{Panicked, SinkFailed, Events, Local}
use Rattle.ink_worlds.specs.declared.status.Status.{Status}
use Rattle.ink_worlds.specs.declared.status.Status.TheVariants.{Ready, Out, Idle, Held, Stopped}

-- what a world claims of a process that stands so in the run. One that is lent had made so many steps when it went; of one
-- that is stopped no more is claimed than its number, its type and its count of steps, and nothing where it is gone
abbrev pub AtHome : {P V : Type 0} → Machine P V → SharedState V → ℕ → Option Status → Option (Option P) → P → Type 0
AtHome m shared process None home q = ⊥
AtHome m shared process (Some Ready) home q = home ≡ Some (Some q)
AtHome m shared process (Some (Out seat ran)) home q = (home ≡ Some None) × (m.ran q ≡ ran)
AtHome {P} {V} m shared process (Some Idle) home q =
    (home ≡ Some (Some q)) × (m.step q ≡ Comes Take q) × (is_enabled {V = V} Take process shared ≡ false)
AtHome m shared process (Some (Held future)) home q =
    (home ≡ Some (Some q)) × (m.step q ≡ Comes (GetFuture future) q) × (is_enabled (GetFuture future) process shared ≡ false)
AtHome {P} m shared process (Some Stopped) home q = (kept : Option P) × (home ≡ Some kept) × IfSome kept (λ p. IsLike m p q)

abbrev pub panic_in : Option Halt → Option ℕ
panic_in None = None
panic_in (Some (Panicked process)) = Some process
panic_in (Some SinkFailed) = None
panic_in (Some (Events process)) = None
panic_in (Some (Local process steps)) = None

-- the text of a panic, where there is one
abbrev pub text_in : Option (ℕ × List ℕ) → Option (List ℕ)
text_in None = None
text_in (Some panic) = Some panic.1

-- after a journal a process comes to an action that can be made
pub record CanAct {P V : Type 0} (m : Machine P V) (limits : List ℕ) (first : Run P V) (journal : List ℕ) (shared : SharedState V) (process : ℕ) : Type 0 where
  pub before : P
  pub stood : StandsAt m limits first journal process before
  pub wish : Action V
  pub waiting : P
  pub comes : m.step before ≡ Comes wish waiting
  pub enabled : is_enabled wish process shared ≡ true

-- after a journal a process made so many steps, none of them an action
pub record HasMade {P V : Type 0} (m : Machine P V) (limits : List ℕ) (first : Run P V) (journal : List ℕ) (process steps : ℕ) : Type 0 where
  pub q : P
  pub stood : StandsAt m limits first journal process q
  pub made : m.ran q ≡ steps

-- what ended a world at a check-in; a panic and a sink that failed are told by the journal and the sink
abbrev pub EndedBy : {P V : Type 0} → Machine P V → List ℕ → Run P V → List ℕ → SharedState V → Option Halt → Type 0
EndedBy m limits first journal shared None = Unit {0}
EndedBy m limits first journal shared (Some (Panicked process)) = Unit {0}
EndedBy m limits first journal shared (Some SinkFailed) = Unit {0}
EndedBy m limits first journal shared (Some (Events process)) =
    (limit_of limit.Events limits ≤ length journal) × CanAct m limits first journal shared process
EndedBy m limits first journal shared (Some (Local process steps)) =
    (steps ≡ limit_of limit.Local limits) × HasMade m limits first journal process steps

-- the world is the run after its journal's turns and the steps of each process
pub record StandsFor {P V : Type 0} (m : Machine P V) (limits : List ℕ) (first : Run P V) (state : State P V) : Type 0 where
  pub run : Run P V
  pub ahead : Ahead m limits first state.journal run
  pub shared : state.shared ≡ run.shared
  pub panic : panic_in state.halt ≡ panicked run.panic
  pub text : state.text ≡ text_in run.panic
  pub homes : length state.homes ≡ length run.processes
  pub statuses : length state.statuses ≡ length run.processes
  -- no process made more steps since its last action than are allowed
  pub counts : (process : ℕ) (q : P) → numbered run.processes process ≡ Some q → m.ran q ≤ limit_of limit.Local limits
  pub ended : EndedBy m limits first state.journal state.shared state.halt
  -- a process that panicked makes no further step
  pub rests : (process : ℕ) → state.halt ≡ Some (Panicked process) → numbered state.statuses process ≡ Some Stopped
  -- and is at home as the run has it
  pub kept : (process : ℕ) (q : P) → state.halt ≡ Some (Panicked process) → numbered run.processes process ≡ Some q → numbered state.homes process ≡ Some (Some q)
  pub each : (process : ℕ) (q : P) → numbered run.processes process ≡ Some q → AtHome m state.shared process (numbered state.statuses process) (numbered state.homes process) q

-- the process that comes home is the one that stands so after the journal, and its next step is what it came to. One that
-- gives up is like that one, and one that may make no more steps made as many as are allowed
abbrev pub ComesFrom : {P V : Type 0} → Machine P V → List ℕ → P → Came V → P → Type 0
ComesFrom m limits before Went p = p ≡ before
ComesFrom m limits before GivesUp p = IsLike m p before
ComesFrom m limits before (Wants wish) p = m.step before ≡ Comes wish p
ComesFrom m limits before (Spent steps) p = (p ≡ before) × (m.ran p ≡ steps) × (steps ≡ limit_of limit.Local limits)
