-- What is asked of a world before an action is made in it, and of a process that comes home.
use Rattle.std.specs.Prelude.{◌≡◌, ◌+◌, ◌≤◌, ℕ, Bool, true, false, Option, None, Some, Result, Ok, Err, List, length, map}
use Rattle.ink_base.specs.declared.limits.Limit.TheVariants as limit
use Rattle.ink_base.specs.Actions.{Action, is_enabled, panic_of}
use Rattle.ink_base.specs.Actions as action
use Rattle.ink_base.specs.Limits.{limit_of}
use Rattle.ink_base.specs.Numbered.{numbered}
use Rattle.ink_code.specs.declared.code.Code.{Code}
use Rattle.ink_code.specs.Process.{Process}
use Rattle.ink_code.specs.Trees.{Parcel}
use Rattle.ink_law_runs.specs.CodeMachine.{code_machine, opening_run}
use Rattle.ink_law_turns.specs.Ahead.{StandsAt}
use Rattle.ink_law_turns.specs.Machines.{Fails}
use Rattle.ink_law_worlds.specs.Coming.{IsApartFor, IsFresh}
use Rattle.ink_post.specs.declared.answer.Came.{Came as OneCame}
use Rattle.ink_post.specs.declared.answer.Came.TheVariants as c
use Rattle.ink_post.specs.declared.post.Post.{Post}
use Rattle.ink_post.specs.Worlds.{home_of, world_of}
use Rattle.ink_steps.specs.Answers.{action_of}
use Rattle.ink_steps.specs.declared.stepped.StepFault.{StepFault}
use Rattle.ink_steps.specs.declared.stepped.StepFault.TheVariants as fault
use Rattle.ink_steps.specs.declared.stepped.Stepped.{Stepped}
use Rattle.ink_steps.specs.declared.stepped.Stepped.TheVariants as stepped
use Rattle.ink_worlds.specs.Standing.{ComesFrom}
use Rattle.ink_worlds.specs.State.{Came, Went, GivesUp, Wants, Spent, ready_at}
use Rattle.ink_worlds.specs.declared.status.Status.TheVariants.{Out}

-- no check-in ended the run, and no panic was made
pub record GoesOn (post : Post) : Type 0 where
  pub halt : post.halt ≡ None
  pub text : post.text ≡ None

-- the process brings nothing whose name stands where the action puts it
pub record BringsApart (wish : Action Parcel) (process : ℕ) (p : Process) (post : Post) : Type 0 where
  pub apart : (output : List ℕ) → IsApartFor wish process (world_of post output).shared p.objects
  pub fresh : IsFresh wish (length post.homes.items + 1)

-- the action can be made as it is, and there is room for its entry
pub record CanMake (made : Action Parcel) (process : ℕ) (p : Process) (post : Post) : Type 0 where
  pub goes : GoesOn post
  pub brings : BringsApart made process p post
  pub enabled : (output : List ℕ) → is_enabled made process (world_of post output).shared ≡ true
  pub whole : (output : List ℕ) → panic_of made (world_of post output).shared post.limits ≡ None
  pub room : 1 ≤ post.journal.spare

-- with what a process comes home, where its instruction isn't wrong
abbrev pub told_came : OneCame → Option (Came Parcel)
told_came c.Went = Some Went
told_came c.GivesUp = Some GivesUp
told_came (c.Wants wish) = Some (Wants (action_of wish))
told_came (c.Panics text) = Some (Wants (action.Panic text))
told_came (c.Spent steps) = Some (Spent steps)
told_came c.Wrong = None

-- a process whose instruction is wrong can't make its next step, and nothing is asked of what is left of it
abbrev pub ComesAs : Code → List ℕ → Process → Option (Came Parcel) → Process → Type 0
ComesAs code limits before None p = (code_machine code limits).step before ≡ Fails
ComesAs code limits before (Some came) p = ComesFrom (code_machine code limits) limits before came p

-- the process comes home from where it stands after a journal, within its limit of steps
pub record ComesOn (code : Code) (limits journal : List ℕ) (process : ℕ) (came : OneCame) (p : Process) : Type 0 where
  pub before : Process
  pub stood : StandsAt (code_machine code limits) limits (opening_run code) journal process before
  pub within : before.ran ≤ limit_of limit.Local limits
  pub from : ComesAs code limits before (told_came came) p

-- a process is lent under a seat, and stands as the journal leaves it, within its limit of steps
pub record IsLent (code : Code) (post : Post) (process seat : ℕ) (p : Process) : Type 0 where
  pub lent : numbered post.statuses.items process ≡ Some (Out seat p.ran)
  pub stood : StandsAt (code_machine code post.limits) post.limits (opening_run code) post.journal.entries process p
  pub within : p.ran ≤ limit_of limit.Local post.limits

-- with what a process comes home from a slice. Without memory it can go on
abbrev pub came_with : Result Stepped StepFault → OneCame
came_with (Ok stepped.Went) = c.Went
came_with (Ok (stepped.Wants wish)) = c.Wants wish
came_with (Ok (stepped.Panics text)) = c.Panics text
came_with (Ok (stepped.Spent steps)) = c.Spent steps
came_with (Err (fault.Wrong why)) = c.Wrong
came_with (Err fault.OutOfMemory) = c.Went

-- whether there was memory for a slice
abbrev pub has_memory : Result Stepped StepFault → Bool
has_memory (Ok came) = true
has_memory (Err (fault.Wrong why)) = true
has_memory (Err fault.OutOfMemory) = false

-- the process is lent under the seat, and comes home from where it stands after the journal
pub record IsComing (code : Code) (post : Post) (process seat : ℕ) (came : OneCame) (p : Process) : Type 0 where
  pub ran : ℕ
  pub lent : numbered post.statuses.items process ≡ Some (Out seat ran)
  pub comes : ComesOn code post.limits post.journal.entries process came p

-- no process of that number is at home and ready
abbrev pub NoneReady : ℕ → Post → Type 0
NoneReady process post = ready_at (numbered post.statuses.items process) (numbered (map home_of post.homes.items) process) ≡ None
