-- The report of a panic.
use Rattle.std.specs.Prelude.{◌≡◌, ℕ, List, [], Option, Some}
use Rattle.ink_base.specs.Numbered.{numbered}
use Rattle.ink_code.specs.Process.{Process}
use Rattle.ink_code.specs.Trees.{Parcel}
use Rattle.ink_code.specs.declared.code.Code.{Code}
use Rattle.ink_causes.specs.declared.cause.Cause.{Cause}
use Rattle.ink_causes.specs.declared.cause.Cause.TheVariants.{Panicked}
use Rattle.ink_law_runs.specs.CodeMachine.{code_machine, opening_run}
use Rattle.ink_law_turns.specs.Turns.{Run, Turns}
use Rattle.ink_post.specs.Worlds.{Stands, proc_at}
use Rattle.ink_post.specs.declared.post.Post.{Post}
use Rattle.ink_proc.specs.declared.process.Proc.{Proc}
use Rattle.ink_proc.specs.State.{state_of}
use Rattle.ink_report.specs.Report.{report_text}
use Rattle.ink_worlds.specs.declared.halt.Halt.TheVariants as halt

-- The last turn of the journal is a panic of this process with a text, and this is the report of that: what the process
-- stands at after the turns, by the names and lines of the code.
pub record IsReport (code : Code) (limits journal : List ℕ) (process : ℕ) (report : List ℕ) : Type 0 where
  pub run : Run Process Parcel
  pub turns : Turns (code_machine code limits) limits (opening_run code) journal run
  pub text : List ℕ
  pub panicked : run.panic ≡ Some (process, text)
  pub p : Process
  pub stands : numbered run.processes process ≡ Some p
  pub written : report ≡ report_text text p code

-- the report that goes with a cause
abbrev pub Reports : Cause → Code → List ℕ → List ℕ → List ℕ → Type 0
Reports (Panicked process) code limits journal report = IsReport code limits journal process report
Reports cause code limits journal report = Unit {0}

-- what is written of a text and of the process at home, where both are there
abbrev pub told_report : Option (List ℕ) → Option Proc → Code → List ℕ
told_report (Some text) (Some proc) code = report_text text (state_of proc) code
told_report text home code = []

-- the report that a world gives with a cause
abbrev pub ReportsOf : Cause → Code → Post → List ℕ → Type 0
ReportsOf (Panicked process) code post report = report ≡ told_report post.text (proc_at (numbered post.homes.items process)) code
ReportsOf cause code post report = Unit {0}

-- where a run stopped for a panic its world says so
abbrev pub PanickedIn : Cause → Code → Post → Type 0
PanickedIn (Panicked process) code post = Stands code post × (post.halt ≡ Some (halt.Panicked process))
PanickedIn cause code post = Unit {0}
