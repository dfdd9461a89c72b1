-- What the end of a run means, in the run after the turns of its journal.
use Rattle.std.specs.Prelude.{◌≡◌, ◌≤◌, ℕ, List, length}
use Rattle.ink_base.specs.declared.limits.Limit.TheVariants as limit
use Rattle.ink_base.specs.Limits.{limit_of}
use Rattle.ink_code.specs.declared.code.Code.{Code}
use Rattle.ink_code.specs.Process.{Process}
use Rattle.ink_code.specs.Trees.{Parcel}
use Rattle.ink_law_replays.specs.Next.{AllAtTake, GoesWrong, IsLeastAtGet, IsReady, IsSpent, PanickedLast}
use Rattle.ink_law_runs.specs.CodeMachine.{code_machine, opening_run}
use Rattle.ink_law_turns.specs.Machines.{Machine}
use Rattle.ink_law_turns.specs.Turns.{Run, Turns}
use Rattle.ink_post.specs.declared.answer.End.{End}
use Rattle.ink_post.specs.declared.answer.End.TheVariants.{Quiet, Waiting, Panicked, SinkFailed, Events, Local, Wrong}

-- by what ended it. What a sink got that failed is said where the sink is known
abbrev pub EndsIn : Machine Process Parcel → List ℕ → List ℕ → Run Process Parcel → End → Type 0
EndsIn m limits journal run Quiet = AllAtTake m run
EndsIn m limits journal run (Waiting process) = IsLeastAtGet m run process
EndsIn m limits journal run (Panicked process) = PanickedLast journal run process
EndsIn m limits journal run SinkFailed = Unit {0}
EndsIn m limits journal run (Events process) = (limit_of limit.Events limits ≤ length journal) × IsReady m run process
EndsIn m limits journal run (Local process steps) = (steps ≡ limit_of limit.Local limits) × IsSpent m run process steps
EndsIn m limits journal run (Wrong process) = GoesWrong m limits run process

-- the run of a code ends so after a journal
pub record Ends (code : Code) (limits journal : List ℕ) (end : End) : Type 0 where
  pub run : Run Process Parcel
  pub turns : Turns (code_machine code limits) limits (opening_run code) journal run
  pub means : EndsIn (code_machine code limits) limits journal run end
