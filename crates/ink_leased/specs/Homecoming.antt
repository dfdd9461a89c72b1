-- What a process that comes home makes of a world.
use Rattle.std.specs.Prelude.{◌≡◌, ℕ, Bool, true, false, Option, None, Some, List}
use Rattle.ink_base.specs.Numbered.{set_numbered}
use Rattle.ink_code.specs.declared.code.Code.{Code}
use Rattle.ink_leased.specs.Lending.{lease_of}
use Rattle.ink_leased.specs.Standing.{has_ended}
use Rattle.ink_leasing.specs.Leases.{OneMore}
use Rattle.ink_post.specs.Meaning.{Ends}
use Rattle.ink_post.specs.Worlds.{Stands}
use Rattle.ink_post.specs.declared.answer.End.TheVariants as end
use Rattle.ink_post.specs.declared.post.Post.{Post}
use Rattle.ink_run.specs.Sinks.{SinkState}
use Rattle.ink_run.specs.Written.{KeepsWritten}
use Rattle.ink_run.specs.declared.applied.Applied.{Applied}
use Rattle.ink_run.specs.declared.applied.Applied.TheVariants as applied
use Rattle.ink_statuses.specs.Readings.{is_out}
use Rattle.ink_worlds.specs.declared.status.Status.{Status}

-- the process has a status at home, and each seat leases what it leased of the others
pub record IsHome (process : ℕ) (old new : List Status) : Type 0 where
  pub status : Status
  pub home : is_out status ≡ false
  pub leases : (seat : ℕ) → lease_of new seat ≡ lease_of (set_numbered old process status) seat

-- the run goes no further after this answer
abbrev pub over_by : Applied → Bool
over_by applied.Kept = false
over_by applied.Moved = false
over_by applied.Waits = false
over_by applied.Panicked = true
over_by applied.SinkFailed = true
over_by applied.JournalFull = true
over_by (applied.Spent steps) = true
over_by applied.Wrong = true

-- the world is ahead of its journal, and what went out is the output of that still; or the code of a process is wrong, and
-- no event was made
abbrev pub LeavesBy : Code → Post → Post → SinkState → SinkState → Option ℕ → Type 0
LeavesBy code old new before after None = Stands code new × KeepsWritten code old new before after
LeavesBy code old new before after (Some process) =
    Ends code new.limits new.journal.entries (end.Wrong process)
    × (new.journal.entries ≡ old.journal.entries)
    × (new.halt ≡ None)
    × (after ≡ before)

-- a process came home to a world that had not ended
pub record ComesIn (code : Code) (process : ℕ) (old new : Post) (before after : SinkState) (is_over : Bool) : Type 0 where
  pub limits : new.limits ≡ old.limits
  pub home : IsHome process old.statuses.items new.statuses.items
  pub journal : OneMore process old.journal.entries new.journal.entries
  pub leaves : LeavesBy code old new before after new.wrong
  pub over : is_over ≡ has_ended new
