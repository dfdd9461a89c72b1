-- How a run stands where its replay stops.
use Rattle.std.specs.Prelude.{◌≡◌, ◌<◌, ℕ, Some, List}
use Rattle.ink_code.specs.declared.code.Code.{Code}
use Rattle.ink_code.specs.Process.{Process}
use Rattle.ink_code.specs.Trees.{Parcel}
use Rattle.ink_base.specs.Numbered.{numbered}
use Rattle.ink_law_replays.specs.Next.{IsReady, Waits}
use Rattle.ink_law_runs.specs.CodeMachine.{code_machine, opening_run}
use Rattle.ink_law_turns.specs.Turns.{Run, Turns}
use Rattle.ink_post.specs.Ends.{end_in}
use Rattle.ink_post.specs.Meaning.{Ends}
use Rattle.ink_post.specs.declared.answer.End.{End}
use Rattle.ink_post.specs.declared.answer.End.TheVariants as end
use Rattle.ink_post.specs.declared.post.Post.{Post}
use Rattle.ink_replay.specs.declared.entries.Entered.{Entered}
use Rattle.ink_replay.specs.declared.entries.Entered.TheVariants as entered
use Rattle.ink_replay.specs.declared.entries.Entries.{Entries}
use Rattle.ink_replay.specs.declared.entries.Entries.TheVariants as all
use Rattle.ink_replay.specs.declared.replaying.ReplayStop.{ReplayStop}
use Rattle.ink_replay.specs.declared.replaying.ReplayStop.TheVariants as stop

-- the world ended so. Of one whose code is wrong nothing is claimed
abbrev pub EndsAs : End → Post → Type 0
EndsAs (end.Wrong process) post = Unit {0}
EndsAs other post = end_in post.halt post.wrong post.statuses.items ≡ Some other

abbrev pub EntersEnd : Entered → Post → Type 0
EntersEnd entered.Made post = Unit {0}
EntersEnd entered.Fails post = Unit {0}
EntersEnd (entered.Ends end) post = EndsAs end post

abbrev pub EndsAll : Entries → Post → Type 0
EndsAll all.All post = Unit {0}
EndsAll (all.Bad entry) post = Unit {0}
EndsAll (all.Ended end) post = EndsAs end post

-- each process before this one waits, in the run after the journal's turns
pub record WaitsBefore (code : Code) (limits journal : List ℕ) (process : ℕ) : Type 0 where
  pub run : Run Process Parcel
  pub turns : Turns (code_machine code limits) limits (opening_run code) journal run
  pub waits : (other : ℕ) (p : Process) → numbered run.processes other ≡ Some p → other < process → Waits (code_machine code limits) run other

-- the next action of this process can be made after the journal's turns, and each process before it waits
pub record IsLeastReady (code : Code) (limits journal : List ℕ) (process : ℕ) : Type 0 where
  pub run : Run Process Parcel
  pub turns : Turns (code_machine code limits) limits (opening_run code) journal run
  pub ready : IsReady (code_machine code limits) run process
  pub waits : (other : ℕ) (p : Process) → numbered run.processes other ≡ Some p → other < process → Waits (code_machine code limits) run other

-- what a stop means, after the entries that were made
abbrev pub Means : Code → List ℕ → List ℕ → ReplayStop → Type 0
Means code limits journal (stop.Ended end) = Ends code limits journal end
Means code limits journal (stop.JournalEnds process) = IsLeastReady code limits journal process
Means code limits journal (stop.BadEntry entry) = Unit {0}

-- where the run ended its world says so
abbrev pub StopsAt : ReplayStop → Post → Type 0
StopsAt (stop.Ended end) post = EndsAs end post
StopsAt (stop.JournalEnds process) post = Unit {0}
StopsAt (stop.BadEntry entry) post = Unit {0}
