-- What a turn and a look leave of the world.
use Rattle.std.specs.Prelude.{◌≡◌, ◌^◌, ◌-◌, ℕ, Bool, true, false, Option, None, Some, Result, Ok, Err, List}
use Rattle.ink_base.specs.Actions.{Action, is_enabled}
use Rattle.ink_code.specs.declared.code.Code.{Code}
use Rattle.ink_code.specs.Process.{Process}
use Rattle.ink_code.specs.Trees.{Parcel}
use Rattle.ink_interp.specs.Slices.{AnswersSlice}
use Rattle.ink_post.specs.Answers.{Lends}
use Rattle.ink_post.specs.Asks.{NoneReady, came_with, told_came}
use Rattle.ink_post.specs.Meaning.{Ends}
use Rattle.ink_post.specs.Worlds.{CodeState, StandsAfter, world_of}
use Rattle.ink_post.specs.declared.answer.ActFault.{ActFault}
use Rattle.ink_post.specs.declared.answer.ActFault.TheVariants as fault
use Rattle.ink_post.specs.declared.answer.End.TheVariants as end
use Rattle.ink_post.specs.declared.answer.Looked.{Looked}
use Rattle.ink_post.specs.declared.answer.Looked.TheVariants as looked
use Rattle.ink_post.specs.declared.post.Post.{Post}
use Rattle.ink_steps.specs.declared.stepped.StepFault.{StepFault}
use Rattle.ink_steps.specs.declared.stepped.Stepped.{Stepped}
use Rattle.ink_worlds.specs.State.{Came, Went, GivesUp, Wants, Spent, back_in, halted, put_in, waits_at}
use Rattle.ink_worlds.specs.declared.halt.Halt.TheVariants.{Local}
use Rattle.ink_worlds.specs.declared.status.Status.TheVariants.{Ready, Stopped}

-- no entry was added and nothing ended the run: the world is ahead of its journal still, with the same output
pub record Rests (code : Code) (old new : Post) : Type 0 where
  pub stands : (output : List ℕ) → StandsAfter code old output → StandsAfter code new output
  pub entries : new.journal.entries ≡ old.journal.entries
  pub halt : new.halt ≡ old.halt

-- so it is after a look too, unless it found all steps made, which ends the run, or the code wrong
abbrev pub LooksOn : Code → ℕ → Post → Post → Looked → Type 0
LooksOn code process old new looked.Enabled = Rests code old new
LooksOn code process old new looked.Waits = Rests code old new
LooksOn code process old new (looked.Spent steps) =
    ((output : List ℕ) → StandsAfter code old output → StandsAfter code new output) × (new.halt ≡ Some (Local process steps))
LooksOn code process old new looked.Wrong = Unit {0}

-- an action that can be made is never made any more
abbrev pub SeesWish : ℕ → Action Parcel → Process → CodeState → (enabled : Bool) → CodeState → Looked → Type 0
SeesWish process wish p old true new seen = (seen ≡ looked.Enabled) × (new ≡ back_in process p Stopped old)
SeesWish process wish p old false new seen = (seen ≡ looked.Waits) × (new ≡ back_in process p (waits_at wish) old)

-- what is told of a process that came so far, and where it goes
abbrev pub SeesBy : ℕ → Option (Came Parcel) → Process → CodeState → CodeState → Looked → Type 0
SeesBy process None p old new seen = (seen ≡ looked.Wrong) × (new ≡ put_in process None Stopped old)
SeesBy process (Some Went) p old new seen = (seen ≡ looked.Waits) × (new ≡ back_in process p Ready old)
SeesBy process (Some GivesUp) p old new seen = (seen ≡ looked.Waits) × (new ≡ back_in process p Stopped old)
SeesBy process (Some (Wants wish)) p old new seen = SeesWish process wish p old (is_enabled wish process old.shared) new seen
SeesBy process (Some (Spent steps)) p old new seen =
    (seen ≡ looked.Spent steps) × (new ≡ halted (Local process steps) (back_in process p Stopped old))

-- a lent process made a slice, and what it came to was told
pub record Sees (code : Code) (process : ℕ) (p : Process) (old new : Post) (seen : Looked) : Type 0 where
  pub turns : ℕ
  pub all : turns ≡ 2 ^ 64 - 1
  pub stepped : Result Stepped StepFault
  pub q : Process
  pub sliced : AnswersSlice turns code old.limits stepped p q
  pub sees : (output : List ℕ) → SeesBy process (told_came (came_with stepped)) q (world_of old output) (world_of new output) seen

-- a look: the process went out, and so on
pub record LooksAs (code : Code) (process : ℕ) (old new : Post) (seen : Looked) : Type 0 where
  pub p : Process
  pub middle : Post
  pub lends : Lends process process old middle p
  pub limits : middle.limits ≡ old.limits
  pub sees : Sees code process p middle new seen

-- the last process whose code was found wrong, after a look
abbrev pub wrong_seen : Looked → ℕ → Option ℕ → Option ℕ
wrong_seen looked.Wrong process before = Some process
wrong_seen seen process before = before

abbrev pub wrong_after_look : {F : Type 0} → Result Looked F → ℕ → Option ℕ → Option ℕ
wrong_after_look (Ok seen) process before = wrong_seen seen process before
wrong_after_look (Err fault) process before = before

-- a process whose code is found wrong goes wrong after the journal
abbrev pub SeesWrong : Code → ℕ → Post → Looked → Type 0
SeesWrong code process old looked.Wrong = Ends code old.limits old.journal.entries (end.Wrong process)
SeesWrong code process old seen = Unit {0}

-- why a process made no action: there is none that is at home and ready, or there was no memory
abbrev pub FaultsBy : ℕ → Post → ActFault → Type 0
FaultsBy process old fault.NotReady = NoneReady process old
FaultsBy process old fault.OutOfMemory = ¬ NoneReady process old
