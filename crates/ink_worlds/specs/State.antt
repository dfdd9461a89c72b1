-- A world of processes as plain data, and what its calls come to.
use Rattle.std.specs.Prelude.{◌≡◌, ℕ, ◌+◌, ◌==◌, nat_le, if◌then◌else◌, Bool, true, false, Option, None, Some, List, [], ◌∷◌, ◌++◌, length, map}
use Rattle.ink_base.specs.declared.limits.Limit.TheVariants as limit
use Rattle.ink_base.specs.Actions.{Action, Spawn, Send, SetFuture, BreakFuture, GetFuture, Panic, SharedState, is_enabled, as_made, after_action}
use Rattle.ink_base.specs.Limits.{limit_of}
use Rattle.ink_base.specs.Numbered.{numbered, set_numbered}
use Rattle.ink_law_turns.specs.Machines.{Machine}
use Rattle.ink_law_turns.specs.Turns.{Run, panic_by}
use Rattle.ink_worlds.specs.declared.halt.Halt.{Halt}
use Rattle.ink_worlds.specs.declared.halt.Halt.TheVariants.{Panicked, SinkFailed, Events, Local}
use Rattle.ink_worlds.specs.declared.status.Status.{Status}
use Rattle.ink_worlds.specs.declared.status.Status.TheVariants.{Ready, Out, Idle, Held, Stopped}

-- a world: the process at home under each number, none where it is lent or gone; how each stands; what they share; the
-- journal; the text of the panic that was made; and what ended it
pub record State (P V : Type 0) : Type 0 where
  pub homes : List (Option P)
  pub statuses : List Status
  pub shared : SharedState V
  pub journal : List ℕ
  pub text : Option (List ℕ)
  pub halt : Option Halt

-- with what a process comes home
pub data Came (V : Type 0) : Type 0 where
  -- it can go on
  Went : Came V
  -- its next action is never made
  GivesUp : Came V
  -- it comes to this action
  Wants : (wish : Action V) → Came V
  -- it made so many steps since its last action, and may make no more
  Spent : (steps : ℕ) → Came V

-- what a check-in answers
pub data Answer : Type 0 where
  -- the process is home, and nothing else was done
  Kept : Answer
  -- the action was made
  Moved : Answer
  -- the action can't be made now
  Waits : Answer
  -- the action that was made is a panic
  Panics : Answer
  -- the action can be made, and the journal is at its limit
  Full : Answer
  -- so many steps were made, which is the limit
  Over : (steps : ℕ) → Answer
  -- the code is wrong: the reply of the action can't be put
  Wrong : Answer

-- a world as it begins: all processes are at home and ready
abbrev pub first_state : {P V : Type 0} → Run P V → State P V
first_state run =
    record {
      homes = map (λ p. Some p) run.processes;
      statuses = map (λ p. Ready) run.processes;
      shared = run.shared;
      journal = [];
      text = None;
      halt = None;
    }

-- a world with something else at a number
abbrev pub put_in : {P V : Type 0} → ℕ → Option P → Status → State P V → State P V
put_in process home status state =
    record state {
      homes = set_numbered state.homes process home;
      statuses = set_numbered state.statuses process status;
    }

-- the process goes home, and stands so
abbrev pub back_in : {P V : Type 0} → ℕ → P → Status → State P V → State P V
back_in process p status state = put_in process (Some p) status state

abbrev pub halted : {P V : Type 0} → Halt → State P V → State P V
halted halt state = record state { halt = Some halt }

-- a process that can be lent
abbrev pub ready_at : {P : Type 0} → Option Status → Option (Option P) → Option P
ready_at None home = None
ready_at (Some Ready) None = None
ready_at (Some Ready) (Some home) = home
ready_at (Some (Out seat ran)) home = None
ready_at (Some Idle) home = None
ready_at (Some (Held future)) home = None
ready_at (Some Stopped) home = None

-- the process is lent under a seat, when it had made so many steps
abbrev pub checked_out : {P V : Type 0} → ℕ → ℕ → ℕ → State P V → State P V
checked_out process seat ran state = put_in process None (Out seat ran) state

abbrev pub woken_from_take : Status → Status
woken_from_take Ready = Ready
woken_from_take (Out seat ran) = Out seat ran
woken_from_take Idle = Ready
woken_from_take (Held future) = Held future
woken_from_take Stopped = Stopped

abbrev pub woken_from_get : ℕ → Status → Status
woken_from_get made Ready = Ready
woken_from_get made (Out seat ran) = Out seat ran
woken_from_get made Idle = Idle
woken_from_get made (Held future) = if future == made then Ready else Held future
woken_from_get made Stopped = Stopped

abbrev pub woken_at : Option Status → List Status → ℕ → List Status
woken_at None statuses process = statuses
woken_at (Some status) statuses process = set_numbered statuses process (woken_from_take status)

-- how the processes stand after an action: a message wakes its receiver, what is set or broken wakes those that wait for
-- it, and a new process is ready
abbrev pub woken : {V : Type 0} → Action V → List Status → List Status
woken (Send to method values) statuses = woken_at (numbered statuses to) statuses to
woken (SetFuture future value) statuses = map (woken_from_get future) statuses
woken (BreakFuture future) statuses = map (woken_from_get future) statuses
woken (Spawn kind given) statuses = statuses ++ Ready ∷ []
woken other statuses = statuses

abbrev pub home_started : {P V : Type 0} → Machine P V → Action V → List (Option P) → List (Option P)
home_started m (Spawn kind given) homes = homes ++ Some (m.begun (length homes + 1) kind given) ∷ []
home_started m other homes = homes

abbrev pub halt_by : {V : Type 0} → Action V → ℕ → Option Halt
halt_by (Panic text) process = Some (Panicked process)
halt_by other process = None

abbrev pub text_by : {V : Type 0} → Action V → Option (List ℕ)
text_by (Panic text) = Some text
text_by other = None

abbrev pub status_after : {V : Type 0} → Action V → Status
status_after (Panic text) = Stopped
status_after other = Ready

-- a world after an action that a process made, which left the process so
abbrev pub acted : {P V : Type 0} → Machine P V → Action V → ℕ → P → State P V → State P V
acted m made process left state =
    record {
      homes = home_started m made (set_numbered state.homes process (Some left));
      statuses = woken made (set_numbered state.statuses process (status_after made));
      shared = after_action made process state.shared;
      journal = state.journal ++ process ∷ [];
      text = text_by made;
      halt = halt_by made process;
    }

abbrev pub answer_of : {V : Type 0} → Action V → Answer
answer_of (Panic text) = Panics
answer_of other = Moved

-- how a process waits for an action that can't be made now
abbrev pub waits_at : {V : Type 0} → Action V → Status
waits_at (GetFuture future) = Held future
waits_at other = Idle

-- an action is made, unless its reply can't be put: then the process is gone, and nothing else happened
abbrev pub Makes : {P V : Type 0} → Machine P V → Action V → ℕ → Option P → State P V → Answer → State P V → Type 0
Makes m made process None old answer new = (answer ≡ Wrong) × (new ≡ put_in process None Stopped old)
Makes m made process (Some left) old answer new = (answer ≡ answer_of made) × (new ≡ acted m made process left old)

-- what a wanted action comes to, by whether it can be made and whether the journal is at its limit
abbrev pub ActsBy : {P V : Type 0} → Machine P V → List ℕ → ℕ → Action V → P → State P V → (enabled full : Bool) → Answer → State P V → Type 0
ActsBy m limits process wish waiting old false full answer new = (answer ≡ Waits) × (new ≡ back_in process waiting (waits_at wish) old)
ActsBy m limits process wish waiting old true true answer new = (answer ≡ Full) × (new ≡ halted (Events process) (back_in process waiting Stopped old))
ActsBy m limits process wish waiting old true false answer new =
    Makes m (as_made wish old.shared limits) process (m.left (as_made wish old.shared limits) process old.shared waiting) old answer new

abbrev pub Acts : {P V : Type 0} → Machine P V → List ℕ → ℕ → Action V → P → State P V → Answer → State P V → Type 0
Acts m limits process wish waiting old answer new =
    ActsBy m limits process wish waiting old (is_enabled wish process old.shared) (nat_le (limit_of limit.Events limits) (length old.journal)) answer new

abbrev pub ComesBack : {P V : Type 0} → Machine P V → List ℕ → ℕ → Came V → P → State P V → Answer → State P V → Type 0
ComesBack m limits process Went p old answer new = (answer ≡ Kept) × (new ≡ back_in process p Ready old)
ComesBack m limits process GivesUp p old answer new = (answer ≡ Kept) × (new ≡ back_in process p Stopped old)
ComesBack m limits process (Wants wish) p old answer new = Acts m limits process wish p old answer new
ComesBack m limits process (Spent steps) p old answer new = (answer ≡ Over steps) × (new ≡ halted (Local process steps) (back_in process p Stopped old))

-- a check-in: after an end the process only comes home
abbrev pub ChecksInBy : {P V : Type 0} → Machine P V → List ℕ → ℕ → Came V → P → State P V → Option Halt → Answer → State P V → Type 0
ChecksInBy m limits process came p old (Some halt) answer new = (answer ≡ Kept) × (new ≡ back_in process p Stopped old)
ChecksInBy m limits process came p old None answer new = ComesBack m limits process came p old answer new

abbrev pub ChecksIn : {P V : Type 0} → Machine P V → List ℕ → ℕ → Came V → P → State P V → Answer → State P V → Type 0
ChecksIn m limits process came p old answer new = ChecksInBy m limits process came p old old.halt answer new
