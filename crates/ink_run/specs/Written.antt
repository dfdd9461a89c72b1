-- What went out of a run: the output of its journal.
use Rattle.std.specs.Prelude.{◌≡◌, ℕ, ◌<◌, Option, None, Some, Result, Ok, Err, List, [], ◌∷◌, ◌++◌, length, take}
use Rattle.ink_code.specs.declared.code.Code.{Code}
use Rattle.ink_code.specs.Process.{Process}
use Rattle.ink_code.specs.Trees.{Parcel}
use Rattle.ink_devices.specs.Outside.{CountsFault, appended}
use Rattle.ink_law_runs.specs.CodeMachine.{code_machine, opening_run}
use Rattle.ink_law_turns.specs.Turns.{Run, Turns}
use Rattle.ink_post.specs.Answers.{ActsAs, ChecksHome}
use Rattle.ink_post.specs.Meaning.{Ends}
use Rattle.ink_post.specs.Worlds.{Stands, StandsAfter}
use Rattle.ink_post.specs.declared.answer.Answer.{Answer}
use Rattle.ink_post.specs.declared.answer.Answer.TheVariants as a
use Rattle.ink_post.specs.declared.answer.Came.{Came}
use Rattle.ink_post.specs.declared.answer.End.TheVariants as end
use Rattle.ink_post.specs.declared.post.Post.{Post}
use Rattle.ink_run.specs.Sinks.{SinkState, Gets, Cuts}
use Rattle.ink_run.specs.declared.applied.Applied.{Applied}
use Rattle.ink_run.specs.declared.applied.Applied.TheVariants as applied
use Rattle.ink_post.specs.declared.answer.Looked.{Looked}
use Rattle.ink_post.specs.declared.answer.Looked.TheVariants as looked
use Rattle.ink_worlds.specs.declared.halt.Halt.{Halt}
use Rattle.ink_worlds.specs.declared.halt.Halt.TheVariants as halt

-- the sink got the output of all entries but the last, and of the line that the last one prints only a part, cut before its end
pub record IsCutIn (code : Code) (limits journal : List ℕ) (output : List ℕ) (before after : SinkState) : Type 0 where
  pub earlier : List ℕ
  pub last : ℕ
  pub entries : journal ≡ earlier ++ last ∷ []
  pub run : Run Process Parcel
  pub turns : Turns (code_machine code limits) limits (opening_run code) earlier run
  pub line : List ℕ
  pub whole : output ≡ run.shared.output ++ line
  pub count : ℕ
  pub cut : count < length line
  pub contents : after.contents ≡ appended before.contents (run.shared.output ++ take count line)
  pub failed : CountsFault before.faults after.faults

-- what a sink got of an output, by what ended the run
abbrev pub GotBy : Code → List ℕ → List ℕ → List ℕ → Option Halt → SinkState → SinkState → Type 0
GotBy code limits journal output (Some halt.SinkFailed) before after = IsCutIn code limits journal output before after
GotBy code limits journal output other before after = Gets before after output

-- the world is ahead of its journal, and a sink that was so at first got the output of the journal
pub record IsWritten (code : Code) (post : Post) (before after : SinkState) : Type 0 where
  pub output : List ℕ
  pub stands : StandsAfter code post output
  pub got : GotBy code post.limits post.journal.entries output post.halt before after

-- what a check-in answers outside, by what it answers inside
abbrev pub applied_of : Answer → Applied
applied_of a.Kept = applied.Kept
applied_of a.Moved = applied.Moved
applied_of (a.Printed text) = applied.Moved
applied_of a.Waits = applied.Waits
applied_of a.Panicked = applied.Panicked
applied_of a.JournalFull = applied.JournalFull
applied_of (a.Spent steps) = applied.Spent steps
applied_of a.Wrong = applied.Wrong

-- a line goes out whole, or the sink fails within it, which ends the run
abbrev pub WritesLine : List ℕ → Post → Post → SinkState → SinkState → Applied → Type 0
WritesLine line middle new before after applied.Moved = Gets before after line × (new ≡ middle)
WritesLine line middle new before after applied.SinkFailed =
    Cuts before after line × (new ≡ record middle { halt = Some halt.SinkFailed })
WritesLine line middle new before after other = ⊥

-- what an answer makes of the sink: only a print writes
abbrev pub Writes : Answer → Post → Post → SinkState → SinkState → Applied → Type 0
Writes (a.Printed text) middle new before after got = WritesLine (text ++ 10 ∷ []) middle new before after got
Writes answer middle new before after got = (got ≡ applied_of answer) × (new ≡ middle) × (after ≡ before)

-- a process came home, and what it printed went out
pub record ChecksOut (code : Code) (process : ℕ) (came : Came) (p : Process) (old new : Post) (before after : SinkState) (got : Applied) : Type 0 where
  pub answer : Answer
  pub middle : Post
  pub checks : ChecksHome code process came p old middle (Ok answer)
  pub writes : Writes answer middle new before after got

-- the sink got the output of the journal still, unless the code was found wrong
abbrev pub StaysWritten : Code → Post → Post → SinkState → SinkState → Applied → Type 0
StaysWritten code old new before after applied.Wrong = (new.journal.entries ≡ old.journal.entries) × (after ≡ before)
StaysWritten code old new before after got = (first : SinkState) → IsWritten code old first before → IsWritten code new first after

-- the world is ahead of its journal still, unless the code was found wrong
abbrev pub StandsOn : Code → Post → Applied → Type 0
StandsOn code new applied.Wrong = Unit {0}
StandsOn code new got = Stands code new

-- the last process whose code was found wrong, after an answer
abbrev pub wrong_by : Applied → ℕ → Option ℕ → Option ℕ
wrong_by applied.Wrong process before = Some process
wrong_by answer process before = before

abbrev pub wrong_after : {F : Type 0} → Result Applied F → ℕ → Option ℕ → Option ℕ
wrong_after (Ok answer) process before = wrong_by answer process before
wrong_after (Err fault) process before = before

-- a process whose code is found wrong goes wrong after the journal
abbrev pub TellsWrong : Code → ℕ → Post → Applied → Type 0
TellsWrong code process old applied.Wrong = Ends code old.limits old.journal.entries (end.Wrong process)
TellsWrong code process old answer = Unit {0}

-- a process had a turn, and what it printed went out
pub record ActsOut (code : Code) (process : ℕ) (old new : Post) (before after : SinkState) (got : Applied) : Type 0 where
  pub answer : Answer
  pub middle : Post
  pub acts : ActsAs code process old middle answer
  pub writes : Writes answer middle new before after got

-- what an answer adds to the journal: an entry of the process where its action was made
abbrev pub AddsBy : ℕ → Applied → List ℕ → List ℕ → Type 0
AddsBy process applied.Moved old new = new ≡ old ++ process ∷ []
AddsBy process applied.Panicked old new = new ≡ old ++ process ∷ []
AddsBy process applied.SinkFailed old new = new ≡ old ++ process ∷ []
AddsBy process other old new = new ≡ old

-- the sink got the output of the journal still
abbrev pub KeepsWritten : Code → Post → Post → SinkState → SinkState → Type 0
KeepsWritten code old new before after = (first : SinkState) → IsWritten code old first before → IsWritten code new first after

-- after a look the world is ahead of its journal still, and goes on where nothing was spent. Unless the code was found wrong
abbrev pub LooksOn : Code → Post → Post → Looked → Type 0
LooksOn code old new looked.Wrong = Unit {0}
LooksOn code old new looked.Waits = Stands code new × (new.halt ≡ None)
LooksOn code old new looked.Enabled = Stands code new × (new.halt ≡ None)
LooksOn code old new (looked.Spent steps) = Stands code new

-- the sink got the output of the journal still, unless the code was found wrong
abbrev pub LooksWritten : Code → Post → Post → SinkState → SinkState → Looked → Type 0
LooksWritten code old new before after looked.Wrong = Unit {0}
LooksWritten code old new before after other = KeepsWritten code old new before after
