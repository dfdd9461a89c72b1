-- The file that gets the journal of a run.
use Rattle.std.specs.Prelude.{◌≡◌, ℕ, ◌<◌, ◌⊎◌, List, Option, None, Some}
use Rattle.ink_devices.specs.Outside.{Holds, KeepsOthers}
use Rattle.ink_journal.specs.File.{file as journal_file}
use Rattle.ink_words.specs.Commands.{Word}
use Rattle.ink_causes.specs.Causes.{cause_text}
use Rattle.ink_causes.specs.Devices.{Change, FilesState, SinkState}
use Rattle.ink_causes.specs.Telling.{TriesLine}
use Rattle.ink_causes.specs.declared.cause.Cause.{Cause}
use Rattle.ink_causes.specs.declared.cause.Cause.TheVariants.{Quiet, WriteFault, OutOfMemory, Waiting, EventLimit, LocalLimit, RoundLimit, Panicked}

-- the journal goes to its file after this cause: the run came to an end or to a limit, and nothing failed
abbrev pub IsKept : Cause → Type 0
IsKept Quiet = Unit {0}
IsKept (Waiting process) = Unit {0}
IsKept (Panicked process) = Unit {0}
IsKept (EventLimit process) = Unit {0}
IsKept (LocalLimit process steps) = Unit {0}
IsKept (RoundLimit rounds) = Unit {0}
IsKept cause = ⊥

-- the bytes of the journal stand under the name, and all else is as it was
pub record Records (name : Word) (journal : List ℕ) (files : Change FilesState) : Type 0 where
  pub holds : Holds files.after.held name (journal_file journal)
  pub others : KeepsOthers files.before.held files.after.held name
  pub writes : files.after.writes ≡ files.before.writes

-- the write of a file failed, which was counted with its name; what else the files hold is as it was
pub record FailsToRecord (name : Word) (files : Change FilesState) : Type 0 where
  pub failed : files.before.writes.count < files.after.writes.count
  pub named : files.after.writes.name ≡ Some name
  pub others : KeepsOthers files.before.held files.after.held name

-- a journal was to go to a file, and what cause then holds: the same, or there was no memory, or the write failed. What
-- takes its place is told without memory.
abbrev pub KeepsJournal : Cause → Cause → Word → List ℕ → Change FilesState → Change SinkState → Type 0
KeepsJournal cause told name journal files err =
    ((told ≡ cause) × Records name journal files × (files.after.reads ≡ files.before.reads) × (err.after ≡ err.before))
    ⊎ ((told ≡ OutOfMemory) × (files.after ≡ files.before) × TriesLine (cause_text OutOfMemory name name) err)
    ⊎ ((told ≡ WriteFault) × FailsToRecord name files × (files.after.reads ≡ files.before.reads) × TriesLine (cause_text WriteFault name name) err)

-- nothing is kept
pub record KeepsNothing (cause told : Cause) (files : Change FilesState) (err : Change SinkState) : Type 0 where
  pub same : told ≡ cause
  pub kept : files.after ≡ files.before
  pub quiet : err.after ≡ err.before

-- the journal goes to the file that is to get it, where there is one and the cause allows it
abbrev pub Keeps : Cause → Cause → Option Word → List ℕ → Change FilesState → Change SinkState → Type 0
Keeps cause told None journal files err = KeepsNothing cause told files err
Keeps cause told (Some name) journal files err =
    (IsKept cause × KeepsJournal cause told name journal files err) ⊎ ((IsKept cause → ⊥) × KeepsNothing cause told files err)
