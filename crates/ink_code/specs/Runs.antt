-- Runs of a code: its processes and what they share, their turns, the replay of a journal, and what is ahead of it.
use Rattle.std.specs.Prelude.{◌≡◌, ℕ, ◌+◌, true, Option, None, Some, IsSome, IsSomeAnd, Result, Ok, Err, List, [], ◌∷◌, ◌++◌, length, slice_get}
use Rattle.std.specs.FinMap.{insert, empty}
use Rattle.ink_base.specs.Actions.{Action, SharedState, opening, is_enabled, as_made, after_action}
use Rattle.ink_base.specs.Actions as action
use Rattle.ink_base.specs.Futures.{value_of}
use Rattle.ink_base.specs.declared.future.FutureState.{FutureState}
use Rattle.ink_base.specs.Messages.{Message, front_of}
use Rattle.ink_base.specs.Numbered.{numbered, set_numbered}
use Rattle.ink_code.specs.declared.code.Code.{Code}
use Rattle.ink_code.specs.declared.wrong.Wrong.{Wrong}
use Rattle.ink_base.specs.Objects.{Objects}
use Rattle.ink_code.specs.Process.{Process, state_name, started}
use Rattle.ink_code.specs.Replies.{Reply, Done, Taken, Started, NewPair, Got, answered}
use Rattle.ink_code.specs.Slice.{steps_on, ComesTo}
use Rattle.ink_code.specs.Step.{free_step}
use Rattle.ink_code.specs.Trees.{Parcel}

-- a run as it stands: its processes by number, what they share, and the process that panicked, with its text
pub record World : Type 0 where
  pub processes : List Process
  pub shared : SharedState Parcel
  pub panic : Option (ℕ × List ℕ)

-- a parcel with nothing in it
abbrev pub no_parcel : Parcel
no_parcel = record { values = []; objects = empty }

-- the objects of a parcel, and the state of a process with the values of the parcel as its fields
abbrev pub with_state : ℕ → ℕ → Parcel → Objects
with_state number kind parcel =
    insert parcel.objects (state_name number) (record { kind = kind; tag = 0; fields = parcel.values; count = 0 })

-- a process as it begins, with what a parcel brings
abbrev pub begun : ℕ → ℕ → Parcel → Process
begun number kind parcel = started number kind (with_state number kind parcel)

-- a run as it begins: one process of the main type, with the message of the main method
abbrev pub opening_world : Code → World
opening_world code =
    record { processes = begun 1 code.main_kind no_parcel ∷ []; shared = opening code.main no_parcel; panic = None }

abbrev pub message_reply : Option (Message Parcel) → Option Reply
message_reply None = None
message_reply (Some message) = Some (Taken message.method message.values)

abbrev pub value_reply : Option Parcel → Option Reply
value_reply None = None
value_reply (Some parcel) = Some (Got parcel)

abbrev pub held_by : Option (FutureState Parcel) → Option Parcel
held_by None = None
held_by (Some state) = value_of state

-- what comes back of an action that a process makes: nothing of a panic, and nothing where there is no message or value
unfoldable pub reply_of : Action Parcel → ℕ → SharedState Parcel → Option Reply
reply_of action.Take process shared = message_reply (front_of shared.mail process)
reply_of (action.Print text) process shared = Some Done
reply_of (action.Spawn kind parcel) process shared = Some (Started (length shared.mail + 1))
reply_of (action.Send to method parcel) process shared = Some Done
reply_of action.NewFuture process shared = Some (NewPair (length shared.futures + 1))
reply_of (action.SetFuture future parcel) process shared = Some Done
reply_of (action.BreakFuture future) process shared = Some Done
reply_of (action.GetFuture future) process shared = value_reply (held_by (numbered shared.futures future))
reply_of (action.Panic text) process shared = None

abbrev pub where_right : Result Process Wrong → Option Process
where_right (Err why) = None
where_right (Ok p) = Some p

-- a process after the reply to its action, where there is one and it can be put
abbrev pub with_reply : Code → Option Reply → Process → Option Process
with_reply code None p = None
with_reply code (Some reply) p = where_right (answered code reply p)

-- a process as an action that it made leaves it. A panic gets no reply; as after each action, its steps are counted anew
unfoldable pub process_after : Code → Action Parcel → ℕ → SharedState Parcel → Process → Option Process
process_after code (action.Panic text) process shared p = Some (record p { ran = 0 })
process_after code made process shared p = with_reply code (reply_of made process shared) p

-- the processes after an action: a spawn makes one more
abbrev pub with_started : Action Parcel → List Process → List Process
with_started (action.Spawn kind parcel) processes = processes ++ begun (length processes + 1) kind parcel ∷ []
with_started other processes = processes

abbrev pub panic_by : Action Parcel → ℕ → Option (ℕ × List ℕ)
panic_by (action.Panic text) process = Some (process, text)
panic_by other process = None

-- a run after an action of a process, which left the process so
unfoldable pub after_made : Action Parcel → ℕ → Process → World → World
after_made made process left world =
    record {
      processes = with_started made (set_numbered world.processes process left);
      shared = after_action made process world.shared;
      panic = panic_by made process;
    }

-- the action to which a process of a run comes by steps of its own, and the process as it waits for it. Whether a
-- panic was made is not asked
pub record Next (code : Code) (limits : List ℕ) (world : World) (process : ℕ) (wish : Action Parcel) (waiting : Process) : Type 0 where
  pub p : Process
  pub stands : numbered world.processes process ≡ Some p
  pub comes : ComesTo code limits p wish waiting

-- a turn of a process, in a run without a panic: it comes to an action that can be made, and makes it, or panics in its
-- place. Where its reply can't be put there is no turn
pub record CodeTurn (code : Code) (limits : List ℕ) (process : ℕ) (old new : World) : Type 0 where
  pub runs : old.panic ≡ None
  pub wish : Action Parcel
  pub waiting : Process
  pub next : Next code limits old process wish waiting
  pub enabled : is_enabled wish process old.shared ≡ true
  pub left : Process
  pub replied : process_after code (as_made wish old.shared limits) process old.shared waiting ≡ Some left
  pub after : new ≡ after_made (as_made wish old.shared limits) process left old

-- the run after the turns of a journal, in its order
pub data CodeReplay (code : Code) (limits : List ℕ) : List ℕ → World → Type 0 where
  begins : CodeReplay code limits [] (opening_world code)
  turns : (journal : List ℕ) (process : ℕ) (old new : World) → CodeReplay code limits journal old → CodeTurn code limits process old new → CodeReplay code limits (journal ++ process ∷ []) new

-- the process made the panic that ended the run
abbrev pub HasPanicked : World → ℕ → Type 0
HasPanicked world process = IsSomeAnd world.panic (λ panic. panic.0 ≡ process)

-- a process as it stands after steps of its own, none of which comes to an action. They are as many as it counts, since
-- each action lets it count anew
abbrev pub IsAhead : Code → List ℕ → Process → Process → Type 0
IsAhead code limits p q = steps_on q.ran code limits p ≡ Some q

-- each of the processes is ahead of the one of its number
abbrev pub AreAhead : Code → List ℕ → List Process → List Process → Type 0
AreAhead code limits [] [] = Unit {0}
AreAhead code limits [] (q ∷ others) = ⊥
AreAhead code limits (p ∷ others) [] = ⊥
AreAhead code limits (p ∷ ps) (q ∷ qs) = IsAhead code limits p q × AreAhead code limits ps qs

-- the run after the turns of a journal and further steps of each process; a process that made a panic makes none
pub record CodeAhead (code : Code) (limits : List ℕ) (journal : List ℕ) (world : World) : Type 0 where
  pub turned : World
  pub replay : CodeReplay code limits journal turned
  pub ahead : AreAhead code limits turned.processes world.processes
  pub stays : (process : ℕ) → HasPanicked turned process → numbered world.processes process ≡ numbered turned.processes process
  pub shared : world.shared ≡ turned.shared
  pub panic : world.panic ≡ turned.panic

-- the code has its main method, and in no run of it a process comes to a wrong instruction. Of a process that made a
-- panic nothing is said: the values that it was to send may be gone
pub record IsSafe (code : Code) (limits : List ℕ) : Type 0 where
  pub main : IsSome (slice_get code.methods code.main)
  pub right : (journal : List ℕ) (world : World) → CodeAhead code limits journal world → (process : ℕ) (p : Process) → numbered world.processes process ≡ Some p → ¬ HasPanicked world process → (why : Wrong) → ¬ (free_step code limits p.pending p ≡ Err why)
