-- What the calls of a world answer, in the words of worlds as plain data.
use Rattle.std.specs.Prelude.{◌≡◌, ◌≢◌, ◌^◌, ◌-◌, ℕ, Bool, true, false, Option, None, Some, Result, Ok, Err, List, [], ◌∷◌, ◌++◌}
use Rattle.ink_base.specs.Actions.{Action, as_made, is_enabled}
use Rattle.ink_base.specs.Numbered.{numbered, set_numbered}
use Rattle.ink_code.specs.declared.code.Code.{Code}
use Rattle.ink_code.specs.Process.{Process}
use Rattle.ink_code.specs.Replies.{Reply, answered}
use Rattle.ink_code.specs.Runs.{process_after, where_right}
use Rattle.ink_code.specs.Trees.{Parcel}
use Rattle.ink_law_runs.specs.CodeMachine.{code_machine, opening_run}
use Rattle.ink_law_turns.specs.Ahead.{StandsAt}
use Rattle.ink_post.specs.declared.answer.Answer.{Answer}
use Rattle.ink_post.specs.declared.answer.Answer.TheVariants as a
use Rattle.ink_post.specs.declared.answer.Came.{Came as OneCame}
use Rattle.ink_post.specs.declared.answer.CheckFault.{CheckFault}
use Rattle.ink_post.specs.declared.answer.End.TheVariants as end
use Rattle.ink_post.specs.declared.post.Post.{Post}
use Rattle.ink_interp.specs.Slices.{AnswersSlice}
use Rattle.ink_post.specs.Asks.{IsComing, came_with, told_came}
use Rattle.ink_post.specs.Meaning.{Ends}
use Rattle.ink_steps.specs.declared.stepped.StepFault.{StepFault}
use Rattle.ink_steps.specs.declared.stepped.Stepped.{Stepped}
use Rattle.ink_post.specs.Worlds.{CodeState, Same, Stands, StandsAfter, world_of}
use Rattle.ink_proc.specs.State.{state_of}
use Rattle.ink_worlds.specs.State.{Came, Acts, ChecksIn, acted, answer_of, put_in, checked_out}
use Rattle.ink_worlds.specs.State as w
use Rattle.ink_worlds.specs.declared.halt.Halt.TheVariants.{Panicked}
use Rattle.ink_worlds.specs.declared.status.Status.TheVariants.{Ready, Stopped}

abbrev pub told_answer : Answer → w.Answer
told_answer a.Kept = w.Kept
told_answer a.Moved = w.Moved
told_answer (a.Printed text) = w.Moved
told_answer a.Waits = w.Waits
told_answer a.Panicked = w.Panics
told_answer a.JournalFull = w.Full
told_answer (a.Spent steps) = w.Over steps
told_answer a.Wrong = w.Wrong

-- the output after what an answer prints
abbrev pub with_line : Answer → List ℕ → List ℕ
with_line (a.Printed text) output = output ++ text ++ 10 ∷ []
with_line other output = output

-- the process goes home so, and its entry is added
abbrev pub entered : ℕ → Process → CodeState → CodeState
entered process p state =
    let home = put_in process (Some p) Ready state in record home { journal = state.journal ++ process ∷ [] }

-- a world after a panic of a process, with its text
abbrev pub panicked : ℕ → Process → List ℕ → CodeState → CodeState
panicked process p text state =
    record {
      homes = set_numbered state.homes process (Some (record p { ran = 0 }));
      statuses = set_numbered state.statuses process Stopped;
      shared = state.shared;
      journal = state.journal ++ process ∷ [];
      text = Some text;
      halt = Some (Panicked process);
    }

-- a process goes home with the reply to its action, and its entry is added; or the reply fits nowhere, and the process is gone
abbrev pub FinishesBy : Option Process → ℕ → CodeState → CodeState → Bool → Type 0
FinishesBy replied process old new true = (q : Process) × (replied ≡ Some q) × (new ≡ entered process q old)
FinishesBy replied process old new false = (replied ≡ None) × (new ≡ put_in process None Stopped old)

abbrev pub Finishes : Code → ℕ → Reply → Process → Post → Post → Bool → Type 0
Finishes code process reply p old new done =
    (output : List ℕ) → FinishesBy (where_right (answered code reply p)) process (world_of old output) (world_of new output) done

-- the process is gone, and makes no further step; no entry was added. What was to come to it from the others may be gone too
pub record IsLost (process : ℕ) (old new : CodeState) : Type 0 where
  pub same : new ≡ record (put_in process None Stopped old) { shared = new.shared }
  pub output : new.shared.output ≡ old.shared.output

-- an action was made as it is. Else the code is wrong: the reply fits nowhere
abbrev pub MakesBy : Code → List ℕ → Action Parcel → ℕ → Process → CodeState → CodeState → Answer → Type 0
MakesBy code limits made process p old new a.Wrong = (process_after code made process old.shared p ≡ None) × IsLost process old new
MakesBy code limits made process p old new answer =
    (q : Process) × (process_after code made process old.shared p ≡ Some q) × (told_answer answer ≡ answer_of made) × (new ≡ acted (code_machine code limits) made process q old)

-- without memory all is as before, and the process comes back with what it came with
abbrev pub ComesBack : Post → Post → Process → OneCame → CheckFault → Type 0
ComesBack old new p came fault = Same old new × (state_of fault.proc ≡ p) × (fault.came ≡ came)

-- an action was made as it is, or there was no memory
abbrev pub Makes : Code → Action Parcel → ℕ → Process → OneCame → Post → Post → Result Answer CheckFault → Type 0
Makes code made process p came old new (Ok answer) =
    (output : List ℕ) → MakesBy code old.limits made process p (world_of old output) (world_of new (with_line answer output)) answer
Makes code made process p came old new (Err fault) = ComesBack old new p came fault

-- the action can be made, and the reply to it fits nowhere
abbrev pub FitsNowhere : Code → List ℕ → ℕ → Came Parcel → Process → CodeState → Type 0
FitsNowhere code limits process (w.Wants wish) p old =
    (is_enabled wish process old.shared ≡ true) × (process_after code (as_made wish old.shared limits) process old.shared p ≡ None)
FitsNowhere code limits process other p old = ⊥

-- what a wanted action came to. Else the code is wrong: the reply fits nowhere
abbrev pub ActsBy : Code → List ℕ → Action Parcel → ℕ → Process → CodeState → CodeState → Answer → Type 0
ActsBy code limits wish process p old new a.Wrong = FitsNowhere code limits process (w.Wants wish) p old × IsLost process old new
ActsBy code limits wish process p old new answer = Acts (code_machine code limits) limits process wish p old (told_answer answer) new

abbrev pub ActsOn : Code → Action Parcel → ℕ → Process → OneCame → Post → Post → Result Answer CheckFault → Type 0
ActsOn code wish process p came old new (Ok answer) =
    (output : List ℕ) → ActsBy code old.limits wish process p (world_of old output) (world_of new (with_line answer output)) answer
ActsOn code wish process p came old new (Err fault) = ComesBack old new p came fault

-- what a check-in came to. A process whose code is wrong is gone
abbrev pub ChecksBy : Code → List ℕ → ℕ → Option (Came Parcel) → Process → CodeState → CodeState → Answer → Type 0
ChecksBy code limits process None p old new answer = (answer ≡ a.Wrong) × (new ≡ put_in process None Stopped old)
ChecksBy code limits process (Some came) p old new a.Wrong = FitsNowhere code limits process came p old × IsLost process old new
ChecksBy code limits process (Some came) p old new answer = ChecksIn (code_machine code limits) limits process came p old (told_answer answer) new

-- only an action wants memory
abbrev pub WantsMemory : Option (Came Parcel) → Type 0
WantsMemory (Some (w.Wants wish)) = Unit {0}
WantsMemory other = ⊥

abbrev pub ChecksHome : Code → ℕ → OneCame → Process → Post → Post → Result Answer CheckFault → Type 0
ChecksHome code process came p old new (Ok answer) =
    (output : List ℕ) → ChecksBy code old.limits process (told_came came) p (world_of old output) (world_of new (with_line answer output)) answer
ChecksHome code process came p old new (Err fault) = ComesBack old new p came fault × WantsMemory (told_came came)

-- the world stays ahead of its journal, unless the code was found wrong
abbrev pub StaysAhead : Code → Post → Post → Answer → Type 0
StaysAhead code old new a.Wrong = Unit {0}
StaysAhead code old new answer = (output : List ℕ) → StandsAfter code old output → StandsAfter code new (with_line answer output)

-- a ready process was lent
abbrev pub LendsBy : ℕ → ℕ → CodeState → CodeState → Process → Type 0
LendsBy process seat old new p =
    (numbered old.statuses process ≡ Some Ready) × (numbered old.homes process ≡ Some (Some p)) × (new ≡ checked_out process seat p.ran old)

abbrev pub Lends : ℕ → ℕ → Post → Post → Process → Type 0
Lends process seat old new p = (output : List ℕ) → LendsBy process seat (world_of old output) (world_of new output) p

-- where the world was ahead of its journal, it is so still, and the process stands as the journal leaves it
abbrev pub LendsStanding : Code → ℕ → Post → Post → Process → Type 0
LendsStanding code process old new p =
    (output : List ℕ) → StandsAfter code old output → StandsAfter code new output × StandsAt (code_machine code old.limits) old.limits (opening_run code) old.journal.entries process p

-- each other process that is lent stays so, and comes home from where it did
abbrev pub OthersStay : Code → ℕ → Post → Post → Type 0
OthersStay code process old new =
    (other seat : ℕ) (came : OneCame) (p : Process) → other ≢ process → IsComing code old other seat came p → IsComing code new other seat came p

-- the world is ahead of its journal, unless the code was found wrong
abbrev pub StandsOn : Code → Post → Answer → Type 0
StandsOn code new a.Wrong = Unit {0}
StandsOn code new answer = Stands code new

-- the last process whose code was found wrong, after an answer
abbrev pub wrong_by : Answer → ℕ → Option ℕ → Option ℕ
wrong_by a.Wrong process before = Some process
wrong_by answer process before = before

abbrev pub wrong_after : {F : Type 0} → Result Answer F → ℕ → Option ℕ → Option ℕ
wrong_after (Ok answer) process before = wrong_by answer process before
wrong_after (Err fault) process before = before

-- a process whose code is found wrong goes wrong after the journal
abbrev pub TellsWrong : Code → ℕ → Post → Answer → Type 0
TellsWrong code process old a.Wrong = Ends code old.limits old.journal.entries (end.Wrong process)
TellsWrong code process old answer = Unit {0}

-- a lent process made a slice, and came home with what it came to
pub record GoesAs (code : Code) (process : ℕ) (p : Process) (old new : Post) (answer : Answer) : Type 0 where
  pub turns : ℕ
  pub all : turns ≡ 2 ^ 64 - 1
  pub stepped : Result Stepped StepFault
  pub q : Process
  pub sliced : AnswersSlice turns code old.limits stepped p q
  pub checks : (output : List ℕ) → ChecksBy code old.limits process (told_came (came_with stepped)) q (world_of old output) (world_of new (with_line answer output)) answer
  pub stays : StaysAhead code old new answer

-- a turn of a process: it went out, made a slice, and came home with what it came to
pub record ActsAs (code : Code) (process : ℕ) (old new : Post) (answer : Answer) : Type 0 where
  pub p : Process
  pub middle : Post
  pub lends : Lends process process old middle p
  pub limits : middle.limits ≡ old.limits
  pub goes : GoesAs code process p middle new answer
