-- What the cause means that a run or a replay stopped for.
use Rattle.std.specs.Prelude.{◌≡◌, ℕ, List, Option, None, Some, take}
use Rattle.ink_causes.specs.declared.cause.Cause.{Cause}
use Rattle.ink_causes.specs.declared.cause.Cause.TheVariants.{Quiet, WriteFault, OutOfMemory, Waiting, EventLimit, LocalLimit, RoundLimit, JournalEnds, BadEntry, Panicked, Wrong}
use Rattle.ink_code.specs.declared.code.Code.{Code}
use Rattle.ink_post.specs.Meaning.{Ends}
use Rattle.ink_post.specs.declared.answer.End.TheVariants as end
use Rattle.ink_replay.specs.Ends.{IsLeastReady}
use Rattle.ink_replay.specs.Entries.{Begins, IsNext, NextIs}
use Rattle.ink_replay.specs.Refusals.{IsNoJournal}
use Rattle.ink_replay.specs.Stops.{IsAtEntry, IsSpentAt}

-- A code that was found wrong after the turns of its journal. Of a run in rounds it isn't claimed.
abbrev pub MeansWrong : Option ℕ → Code → List ℕ → List ℕ → ℕ → Type 0
MeansWrong None code limits journal process = Ends code limits journal (end.Wrong process)
MeansWrong (Some most) code limits journal process = Unit {0}

-- How the run of a code stands behind the turns of its journal, where it stopped for this cause. What went out is said
-- apart from it, and without memory a run may stop anywhere.
abbrev pub CauseMeans : Code → List ℕ → Option ℕ → List ℕ → Cause → Type 0
CauseMeans code limits rounds journal Quiet = Ends code limits journal end.Quiet
CauseMeans code limits rounds journal (Waiting process) = Ends code limits journal (end.Waiting process)
CauseMeans code limits rounds journal (Panicked process) = Ends code limits journal (end.Panicked process)
CauseMeans code limits rounds journal (EventLimit process) = Ends code limits journal (end.Events process)
CauseMeans code limits rounds journal (LocalLimit process steps) = Ends code limits journal (end.Local process steps)
CauseMeans code limits rounds journal (Wrong process) = MeansWrong rounds code limits journal process
CauseMeans code limits rounds journal (RoundLimit most) = rounds ≡ Some most
CauseMeans code limits rounds journal cause = Unit {0}

-- And how far a replay by these entries came: all were made, or up to the next one, which is of that process.
abbrev pub ReplayMeans : Code → List ℕ → List ℕ → List ℕ → Cause → Type 0
ReplayMeans code limits entries journal Quiet = Ends code limits journal end.Quiet × (journal ≡ entries)
ReplayMeans code limits entries journal (Waiting process) = Ends code limits journal (end.Waiting process) × (journal ≡ entries)
ReplayMeans code limits entries journal (Panicked process) = Ends code limits journal (end.Panicked process) × (journal ≡ entries)
ReplayMeans code limits entries journal (EventLimit process) =
    Ends code limits journal (end.Events process) × Begins entries journal × NextIs process entries journal
ReplayMeans code limits entries journal (LocalLimit process steps) =
    Ends code limits journal (end.Local process steps) × IsSpentAt code limits process entries journal
ReplayMeans code limits entries journal (Wrong process) = Ends code limits journal (end.Wrong process) × IsAtEntry process entries journal
ReplayMeans code limits entries journal (JournalEnds process) = IsLeastReady code limits journal process × (journal ≡ entries)
ReplayMeans code limits entries journal (BadEntry entry) = IsNext entry entries journal × IsNoJournal code limits (take entry entries)
ReplayMeans code limits entries journal WriteFault = Begins entries journal
ReplayMeans code limits entries journal OutOfMemory = Begins entries journal
ReplayMeans code limits entries journal cause = Unit {0}
