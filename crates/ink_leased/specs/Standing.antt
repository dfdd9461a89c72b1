-- What a world stands for whose processes are leased: the one with which it began, gone on.
use Rattle.std.specs.Prelude.{◌≡◌, ◌⊎◌, ◌||◌, not, ℕ, Bool, None, IfSome, List}
use Rattle.std.specs.List.{list_any, position}
use Rattle.std.specs.Option.{is_some}
use Rattle.ink_code.specs.declared.code.Code.{Code}
use Rattle.ink_code.specs.Process.{Process}
use Rattle.ink_code.specs.Trees.{Parcel}
use Rattle.ink_law_runs.specs.CodeMachine.{code_machine, opening_run}
use Rattle.ink_law_turns.specs.Turns.{Run, Turns}
use Rattle.ink_post.specs.Meaning.{Ends}
use Rattle.ink_post.specs.Worlds.{Stands}
use Rattle.ink_post.specs.declared.answer.End.TheVariants as end
use Rattle.ink_post.specs.declared.post.Post.{Post}
use Rattle.ink_run.specs.Sinks.{SinkState}
use Rattle.ink_run.specs.Written.{GotBy, IsWritten, KeepsWritten}
use Rattle.ink_statuses.specs.Readings.{is_out, is_ready}
use Rattle.ink_worlds.specs.declared.status.Status.{Status}

-- the turns of a journal lead to a run
pub record HasTurned (code : Code) (limits journal : List ℕ) : Type 0 where
  pub run : Run Process Parcel
  pub turns : Turns (code_machine code limits) limits (opening_run code) journal run

-- a sink got the output of the journal's turns: all of it, or cut in the last line where that ended the run
pub record WentOut (code : Code) (post : Post) (before after : SinkState) : Type 0 where
  pub run : Run Process Parcel
  pub turns : Turns (code_machine code post.limits) post.limits (opening_run code) post.journal.entries run
  pub got : GotBy code post.limits post.journal.entries run.shared.output post.halt before after

-- a check-in ended the run, or found the code of a process wrong
abbrev pub has_ended : Post → Bool
has_ended post = is_some post.halt || is_some post.wrong

-- a process is ready or lent
abbrev pub is_up : List Status → Bool
is_up statuses = is_some (position is_ready statuses) || list_any is_out statuses

-- nothing is left to run
abbrev pub rests : Post → Bool
rests post = has_ended post || not (is_up post.statuses.items)

-- One world came of another, by events of its journal. Where the code of a process was found wrong, nothing more is claimed
-- of the processes: the journal and what went out are as before that.
pub record StandsFor (code : Code) (began : Post) (first : SinkState) (now : Post) (sink : SinkState) (is_over : Bool) : Type 0 where
  pub limits : now.limits ≡ began.limits
  pub turned : HasTurned code now.limits now.journal.entries
  pub stands : now.wrong ≡ None → Stands code now
  pub written : now.wrong ≡ None → KeepsWritten code began now first sink
  pub went : (before : SinkState) → IsWritten code began before first → WentOut code now before sink
  pub wrong : IfSome now.wrong (λ process. Ends code now.limits now.journal.entries (end.Wrong process))
  pub ended : (now.halt ≡ None) ⊎ (now.wrong ≡ None)
  pub over : is_over ≡ has_ended now
