-- Several steps, one after another.
use Rattle.std.specs.Prelude.{◌≡◌, ℕ, zero, suc, Option, None, Some, Ok, Err, List}
use Rattle.ink_base.specs.Actions.{Action}
use Rattle.ink_base.specs.Actions as action
use Rattle.ink_code.specs.declared.code.Code.{Code}
use Rattle.ink_code.specs.Machine.{Stepped, Went, Wants, Panics, Spent, Outcome}
use Rattle.ink_code.specs.Process.{Process}
use Rattle.ink_code.specs.Step.{code_step, free_step}
use Rattle.ink_code.specs.Trees.{Parcel}

-- behind a step that was made comes the rest
abbrev pub further : Stepped → Process → (Process → Outcome) → Outcome
further Went p rest = rest p
further (Wants action) p rest = Ok (Wants action, p)
further (Panics text) p rest = Ok (Panics text, p)
further (Spent steps) p rest = Ok (Spent steps, p)

abbrev pub goes_on : Outcome → (Process → Outcome) → Outcome
goes_on (Err why) rest = Err why
goes_on (Ok (stepped, p)) rest = further stepped p rest

-- at most so many steps, up to the first that comes to something else than the next one
unfoldable pub slice_of : ℕ → Code → List ℕ → Process → Outcome
slice_of zero code limits p = Ok (Went, p)
slice_of (suc most) code limits p = goes_on (code_step code limits p) (λ q. slice_of most code limits q)

abbrev pub process_if : Stepped → Process → Option Process
process_if Went p = Some p
process_if (Wants action) p = None
process_if (Panics text) p = None
process_if (Spent steps) p = None

-- the process after a step that was made
abbrev pub gone_on : Outcome → Option Process
gone_on (Err why) = None
gone_on (Ok (stepped, p)) = process_if stepped p

abbrev pub next_on : Option Process → (Process → Option Process) → Option Process
next_on None rest = None
next_on (Some p) rest = rest p

-- the process after so many steps, whatever the limit of steps, where each of them was made
unfoldable pub steps_on : ℕ → Code → List ℕ → Process → Option Process
steps_on zero code limits p = Some p
steps_on (suc steps) code limits p = next_on (gone_on (free_step code limits p.pending p)) (λ q. steps_on steps code limits q)

abbrev pub wanted : Stepped → Process → Option (Action Parcel × Process)
wanted Went p = None
wanted (Wants wish) p = Some (wish, p)
wanted (Panics text) p = Some (action.Panic text, p)
wanted (Spent steps) p = None

-- the action that a step wants, of which a panic is one, and the process as it waits for it
abbrev pub wish_of : Outcome → Option (Action Parcel × Process)
wish_of (Err why) = None
wish_of (Ok (stepped, p)) = wanted stepped p

-- the action to which a process comes after finitely many steps of its own, and the process as it waits for it
pub record ComesTo (code : Code) (limits : List ℕ) (p : Process) (wish : Action Parcel) (waiting : Process) : Type 0 where
  pub steps : ℕ
  pub before : Process
  pub goes : steps_on steps code limits p ≡ Some before
  pub wants : wish_of (free_step code limits before.pending before) ≡ Some (wish, waiting)
