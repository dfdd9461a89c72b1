-- A process of a code that comes home to its world.
use Rattle.std.specs.Prelude.{◌≡◌, ◌≢◌, ◌≤◌, ℕ, ◌+◌, Some, IfSome, IsSome, List, length}
use Rattle.std.specs.FinMap.{get}
use Rattle.ink_base.specs.declared.ident.ObjectId.{ObjectId}
use Rattle.ink_base.specs.declared.limits.Limit.TheVariants as limit
use Rattle.ink_base.specs.Actions.{Action, SharedState}
use Rattle.ink_base.specs.Actions as action
use Rattle.ink_base.specs.Limits.{limit_of}
use Rattle.ink_base.specs.Messages.{front_of}
use Rattle.ink_base.specs.Numbered.{numbered}
use Rattle.ink_base.specs.Objects.{Objects}
use Rattle.ink_code.specs.declared.code.Code.{Code}
use Rattle.ink_code.specs.Process.{Process}
use Rattle.ink_code.specs.Runs.{World, held_by}
use Rattle.ink_code.specs.Trees.{Parcel}
use Rattle.ink_law_runs.specs.CodeMachine.{code_machine, opening_run}
use Rattle.ink_law_turns.specs.Ahead.{StandsAt}
use Rattle.ink_law_turns.specs.Turns.{Run}
use Rattle.ink_parcel.specs.Parts.{AreApartFrom}
use Rattle.ink_worlds.specs.Standing.{StandsFor, ComesFrom}
use Rattle.ink_worlds.specs.State.{State, Came}
use Rattle.ink_worlds.specs.declared.status.Status.TheVariants.{Out}

-- a world of a code is ahead of its own journal
abbrev pub StandsForCode : Code → List ℕ → State Process Parcel → Type 0
StandsForCode code limits state = StandsFor (code_machine code limits) limits (opening_run code) state

-- a run as the machine of a code has it
abbrev pub world_of : Run Process Parcel → World
world_of run = record { processes = run.processes; shared = run.shared; panic = run.panic }

-- a process is lent under a seat, and comes home from where it stands after the journal
pub record ComesHome (code : Code) (limits : List ℕ) (state : State Process Parcel) (process seat : ℕ) (came : Came Parcel) (p : Process) : Type 0 where
  pub ran : ℕ
  pub lent : numbered state.statuses process ≡ Some (Out seat ran)
  pub before : Process
  pub stood : StandsAt (code_machine code limits) limits (opening_run code) state.journal process before
  pub within : before.ran ≤ limit_of limit.Local limits
  pub from : ComesFrom (code_machine code limits) limits before came p

-- the objects that the reply of an action brings have other names than these
abbrev pub IsApartFor : Action Parcel → ℕ → SharedState Parcel → Objects → Type 0
IsApartFor action.Take process shared objects = IfSome (front_of shared.mail process) (λ message. AreApartFrom objects message.values.objects)
IsApartFor (action.GetFuture future) process shared objects = IfSome (held_by (numbered shared.futures future)) (λ parcel. AreApartFrom objects parcel.objects)
IsApartFor other process shared objects = Unit {0}

-- no object with which an action starts a process has the number of that one
abbrev pub IsFresh : Action Parcel → ℕ → Type 0
IsFresh (action.Spawn kind parcel) number = (id : ObjectId) → IsSome (get parcel.objects id) → id.process ≢ number
IsFresh other number = Unit {0}
