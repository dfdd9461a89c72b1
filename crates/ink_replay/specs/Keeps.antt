-- What stays of a world in which entries are made.
use Rattle.std.specs.Prelude.{◌≡◌, ℕ, List, Option, None, Some}
use Rattle.ink_code.specs.declared.code.Code.{Code}
use Rattle.ink_code.specs.Process.{Process}
use Rattle.ink_code.specs.Trees.{Parcel}
use Rattle.ink_law_runs.specs.CodeMachine.{code_machine, opening_run}
use Rattle.ink_law_turns.specs.Turns.{Run, Turns}
use Rattle.ink_post.specs.Meaning.{Ends}
use Rattle.ink_post.specs.Worlds.{Stands}
use Rattle.ink_post.specs.declared.answer.End.TheVariants as end
use Rattle.ink_post.specs.declared.post.Post.{Post}
use Rattle.ink_run.specs.Sinks.{SinkState, Gets}
use Rattle.ink_run.specs.Written.{IsWritten}
use Rattle.ink_worlds.specs.declared.halt.Halt.{Halt}
use Rattle.ink_worlds.specs.declared.halt.Halt.TheVariants as halt

-- the world is ahead of its journal, no code was found wrong that wasn't before, and what went out is the output of the
-- journal, where it was so before
pub record Keeps (code : Code) (old new : Post) (before after : SinkState) : Type 0 where
  pub stands : Stands code new
  pub limits : new.limits ≡ old.limits
  pub wrong : new.wrong ≡ old.wrong
  pub written : (first : SinkState) → IsWritten code old first before → IsWritten code new first after

-- nothing ended the run, or a panic
abbrev pub IsUncut : Option Halt → Type 0
IsUncut None = Unit {0}
IsUncut (Some (halt.Panicked process)) = Unit {0}
IsUncut (Some halt.SinkFailed) = ⊥
IsUncut (Some (halt.Events process)) = ⊥
IsUncut (Some (halt.Local process steps)) = ⊥

-- the output of the journal's turns went out, whole
pub record GotWhole (code : Code) (limits journal : List ℕ) (before after : SinkState) : Type 0 where
  pub run : Run Process Parcel
  pub turns : Turns (code_machine code limits) limits (opening_run code) journal run
  pub gets : Gets before after run.shared.output

-- the code of a process was found wrong, and what went out before is the output of the journal
pub record StopsWrong (code : Code) (process : ℕ) (old new : Post) (before after : SinkState) : Type 0 where
  pub limits : new.limits ≡ old.limits
  pub ends : Ends code new.limits new.journal.entries (end.Wrong process)
  pub wrote : (first : SinkState) → IsWritten code old first before → GotWhole code new.limits new.journal.entries first after
