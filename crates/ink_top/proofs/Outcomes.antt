-- What the cause of a call means, what its files hold, and which faults show.
use Rattle.std.proofs.Common.{◌≡◌, ℕ, ◌<◌, ◌⊎◌, inl, inr, List, Option, None, Some, sym, ap, subst, ◌∙◌, arith}
use Rattle.ink_devices.specs.Outside.{Directory, KeepsOthers}
use Rattle.ink_words.specs.Commands.{Word, Asked}
use Rattle.ink_causes.specs.Causes.{cause_text}
use Rattle.ink_causes.specs.Devices.{Change, FilesState, SinkState, HasFailed}
use Rattle.ink_causes.specs.Telling.{TellsMade, Tells}
use Rattle.ink_causes.specs.declared.cause.Cause.{Cause}
use Rattle.ink_causes.specs.declared.cause.Cause.TheVariants.{Quiet, Accepted, Written, Refused, Usage, ReadFault, WriteFault, OutOfMemory, Waiting, EventLimit, LocalLimit, RoundLimit, BadJournal, Panicked, Unbuilt}
use Rattle.ink_causes.proofs.Sinks.{whole_or_failed, idle_or_failed}
use Rattle.ink_commands.specs.Orders.{Came, Did, FromFile}
use Rattle.ink_commands.specs.Sources.{IsUnread}
use Rattle.ink_top.specs.Headline.{TopCall, RunsModule, IsUntouchedOrRuns, Means, MeansCause, KeepsOtherFiles, KeepsUnnamed, RecordedRun, RecordsJournal, UnrecordedRun, HasFailedToWrite, ShowsReadFaults, ShowsWriteFaults}
use Rattle.ink_top.specs.Keeping.{IsKept, Records, FailsToRecord}
use Rattle.ink_top.proofs.Ending.{Went, deed, change, IsMade, plain, recorded, unmade, unwritten, ends, told_as, unkept, kept_on, kept_same, memory_unkept, write_unkept}
use Rattle.ink_top.proofs.Meanings.{found_means}

-- the table of causes

-- a cause whose text takes memory came before anything was done, or a module was run
undone_or_runs : (call : TopCall) (cause : Cause) → IsMade cause → Means cause call → IsUntouchedOrRuns call
undone_or_runs call Quiet made means = absurd made
undone_or_runs call Accepted made means = absurd made
undone_or_runs call Written made means = absurd made
undone_or_runs call WriteFault made means = absurd made
undone_or_runs call OutOfMemory made means = absurd made
undone_or_runs call (Refused refusal) made means = inl means.0
undone_or_runs call (Usage number) made means = inl means.0
undone_or_runs call ReadFault made means = inl means.0
undone_or_runs call (BadJournal right) made means = inl means.0
undone_or_runs call Unbuilt made means = inl means.0
undone_or_runs call cause made means = inr (cause, means)

-- a cause after which the journal is kept is that of a run
kept_runs : (call : TopCall) (cause : Cause) → IsKept cause → Means cause call → RunsModule call cause
kept_runs call Quiet kept means = means
kept_runs call (Waiting process) kept means = means
kept_runs call (Panicked process) kept means = means
kept_runs call (EventLimit process) kept means = means
kept_runs call (LocalLimit process steps) kept means = means
kept_runs call (RoundLimit rounds) kept means = means
kept_runs call cause kept means = absurd kept

found_runs : (call : TopCall) (went : Went call) → IsKept went.told → RunsModule call went.found
found_runs call went kept = kept_runs call went.found (subst IsKept (kept_same call went kept) kept) (found_means call went)

-- what is told of files that were found, of those before the call

fails_from_before : (call : TopCall) (went : Went call) (name : Word) → FailsToRecord name (change went.files call.files.after) → FailsToRecord name call.files
fails_from_before call went name fails =
    let count : went.files.writes.count ≡ call.files.before.writes.count = ap (λ f. f.count) went.read.writes in record {
      failed = subst (λ (n : ℕ). n < call.files.after.writes.count) count fails.failed;
      named = fails.named;
      others = subst (λ (d : Option Directory). KeepsOthers d call.files.after.held name) went.read.held fails.others;
    }

records_from_before : (call : TopCall) (went : Went call) (name : Word) → Records name call.journal (change went.files call.files.after)
    → Records name call.journal call.files
records_from_before call went name records = record {
  holds = records.holds;
  others = subst (λ (d : Option Directory). KeepsOthers d call.files.after.held name) went.read.held records.others;
  writes = records.writes ∙ went.read.writes;
}

-- a run whose journal could not be written
unrecorded : (call : TopCall) (went : Went call) (name : Word) → went.recording ≡ Some name → IsKept went.told
    → FailsToRecord name (change went.files call.files.after) → UnrecordedRun call
unrecorded call went name asks kept fails =
    let runs : RunsModule call went.found = found_runs call went kept in record {
      cause = went.found;
      kept = subst IsKept (kept_same call went kept) kept;
      ran = runs;
      name = name;
      asks = sym (went.asks runs.asked runs.accepted.source.words) ∙ asks;
      fails = fails_from_before call went name fails;
    }

-- a run whose journal stands in its file
recorded_run : (call : TopCall) (went : Went call) (name : Word) → went.recording ≡ Some name → call.cause ≡ went.told → IsKept went.told
    → Records name call.journal (change went.files call.files.after) → RecordedRun call
recorded_run call went name asks same kept records =
    let R : Cause → Type 0 = λ c. RunsModule call c in
    let runs : RunsModule call call.cause = subst R (sym (same ∙ kept_same call went kept)) (found_runs call went kept) in record {
      kept = subst IsKept (sym same) kept;
      ran = runs;
      name = name;
      asks = sym (went.asks runs.asked runs.accepted.source.words) ∙ asks;
      records = records_from_before call went name records;
    }

pub means_cause : (call : TopCall) → Went call → MeansCause call
means_cause call went =
    let M : Cause → Type 0 = λ c. Means c call in
    elim (ends call went) [
      | plain why nothing ↦
          elim (told_as went.found went.told went.name went.report (change call.err.before went.err) went.tells) [
            | inl same ↦ subst M (sym (nothing.same ∙ same)) (found_means call went)
            | inr place ↦
                let done : IsUntouchedOrRuns call = undone_or_runs call went.found place.0 (found_means call went) in
                elim place.1 [
                  | inl memory ↦ subst M (sym (nothing.same ∙ memory)) done
                  | inr write ↦ subst M (sym (nothing.same ∙ write.0)) (inr (inr (inl (
                    done,
                    subst (λ (e : SinkState). HasFailed (change call.err.before e)) (sym nothing.quiet) write.1,
                  ))))
                ]
          ]
      | recorded name asks same kept records reads err ↦ subst M (sym (same ∙ kept_same call went kept)) (found_means call went)
      | unmade name kept is files tries ↦ subst M (sym is) (inr (went.found, found_runs call went kept))
      | unwritten name asks kept is fails reads tries ↦
          subst M (sym is) (inr (inr (inr (unrecorded call went name asks kept fails))))
    ]

-- the files

pub keeps_other_files : (call : TopCall) → Went call → KeepsOtherFiles call
keeps_other_files call went = elim (ends call went) [
  | plain why nothing ↦ inl (kept_on call.files.before went.files call.files.after went.read nothing.kept)
  | recorded name asks same kept records reads err ↦ inr (inl (recorded_run call went name asks same kept records))
  | unmade name kept is files tries ↦ inl (kept_on call.files.before went.files call.files.after went.read files)
  | unwritten name asks kept is fails reads tries ↦ inr (inr (is, unrecorded call went name asks kept fails))
]

some_injective : (A : Type 0) (a b : A) → Some a ≡ Some b → a ≡ b
some_injective A a b e = cc

none_or_some : {A : Type 0} (name : Word) (recording : Option Word) → recording ≡ None → recording ≡ Some name → A
none_or_some {A} name recording none some = let both : None ≡ Some name = sym none ∙ some in absurd cc

pub keeps_unnamed : (call : TopCall) → Went call → KeepsUnnamed call
keeps_unnamed call went asked order none =
    let nothing : went.recording ≡ None = went.asks asked order ∙ none in
    elim (ends call went) [
      | plain why still ↦ kept_on call.files.before went.files call.files.after went.read still.kept
      | recorded name asks same kept records reads err ↦ none_or_some name went.recording nothing asks
      | unmade name kept is files tries ↦ kept_on call.files.before went.files call.files.after went.read files
      | unwritten name asks kept is fails reads tries ↦ none_or_some name went.recording nothing asks
    ]

pub records_journal : (call : TopCall) → Went call → RecordsJournal call
records_journal call went asked name order asks kept =
    let is : went.recording ≡ Some name = went.asks asked order ∙ asks in
    elim (ends call went) [
      | plain why nothing ↦ none_or_some name went.recording (why (subst IsKept nothing.same kept)) is
      | recorded other own same was records reads err ↦
          subst (λ (n : Word). Records n call.journal call.files) (some_injective Word other name (sym own ∙ is)) (records_from_before call went other records)
      | unmade other was memory files tries ↦ absurd (memory_unkept call.cause memory kept)
      | unwritten other own was write fails reads tries ↦ absurd (write_unkept call.cause write kept)
    ]

-- faults that were counted

rose_or_same : {State : Type 0} (count : State → ℕ) (old new : State) → new ≡ old → count old < count new → ⊥
rose_or_same {State} count old new same rose = let e : count new ≡ count old = ap count same in omega (arith, e, rose)

abbrev IsWriteOrMemory : Cause → Type 0
IsWriteOrMemory cause = cause ≡ WriteFault ⊎ cause ≡ OutOfMemory

made_failed : (cause told : Cause) (name report : List ℕ) (err : Change SinkState) → TellsMade cause told name report err → HasFailed err
    → IsWriteOrMemory told
made_failed cause told name report err tells failed = elim tells [
  | inl same ↦ absurd (whole_or_failed err (cause_text cause name report) same.1 failed)
  | inr other ↦ elim other [ inl memory ↦ inr memory.0 | inr write ↦ inl write.0 ]
]

tells_failed : (cause told : Cause) (name report : List ℕ) (err : Change SinkState) → Tells cause told name report err → HasFailed err
    → IsWriteOrMemory told
tells_failed Quiet told name report err tells failed = absurd (idle_or_failed err tells.1 failed)
tells_failed Accepted told name report err tells failed = absurd (idle_or_failed err tells.1 failed)
tells_failed Written told name report err tells failed = absurd (idle_or_failed err tells.1 failed)
tells_failed WriteFault told name report err tells failed = inl tells.0
tells_failed OutOfMemory told name report err tells failed = inr tells.0
tells_failed cause told name report err tells failed = made_failed cause told name report err tells failed

told_failed : (call : TopCall) (went : Went call) → call.err.after ≡ went.err → HasFailed call.err → IsWriteOrMemory went.told
told_failed call went same failed =
    tells_failed went.found went.told went.name went.report (change call.err.before went.err) went.tells
    (subst (λ (e : SinkState). HasFailed (change call.err.before e)) same failed)

write_or_memory_unkept : (cause : Cause) → IsWriteOrMemory cause → IsKept cause → ⊥
write_or_memory_unkept cause is kept = elim is [ inl write ↦ write_unkept cause write kept | inr memory ↦ memory_unkept cause memory kept ]

err_failed : (call : TopCall) (went : Went call) → HasFailed call.err → IsWriteOrMemory call.cause
err_failed call went failed = elim (ends call went) [
  | plain why nothing ↦ subst IsWriteOrMemory (sym nothing.same) (told_failed call went nothing.quiet failed)
  | recorded name asks same kept records reads err ↦ absurd (write_or_memory_unkept went.told (told_failed call went err failed) kept)
  | unmade name kept is files tries ↦ inr is
  | unwritten name asks kept is fails reads tries ↦ inl is
]

write_failed : (call : TopCall) (went : Went call) → HasFailedToWrite call → IsWriteOrMemory call.cause
write_failed call went failed =
    let never = rose_or_same (λ faults. faults.count) call.files.before.writes call.files.after.writes in
    elim (ends call went) [
      | plain why nothing ↦ absurd (never (ap (λ (f : FilesState). f.writes) nothing.kept ∙ went.read.writes) failed)
      | recorded name asks same kept records reads err ↦ absurd (never (records.writes ∙ went.read.writes) failed)
      | unmade name kept is files tries ↦ inr is
      | unwritten name asks kept is fails reads tries ↦ inl is
    ]

-- the files were read as they were found
reads_found : (call : TopCall) (went : Went call) → call.files.after.reads ≡ went.files.reads
reads_found call went = elim (ends call went) [
  | plain why nothing ↦ ap (λ (f : FilesState). f.reads) nothing.kept
  | recorded name asks same kept records reads err ↦ reads
  | unmade name kept is files tries ↦ ap (λ (f : FilesState). f.reads) files
  | unwritten name asks kept is fails reads tries ↦ reads
]

unread_failed : (cause : Cause) (file : Word) (files : Change FilesState) → IsUnread cause file files
    → files.before.reads.count < files.after.reads.count → cause ≡ ReadFault
unread_failed cause file files unread rose = elim unread [
  | inl read ↦ read.0
  | inr memory ↦ absurd (rose_or_same (λ faults. faults.count) files.before.reads files.after.reads memory.1 rose)
]

from_failed : (call : TopCall) (went : Went call) (file : Word) (most : ℕ) (Came : List ℕ → Type 0)
    → call.files.before.reads.count < went.files.reads.count → ((bytes : List ℕ) → Came bytes → went.found ≡ ReadFault)
    → FromFile file most Came (deed call went) → went.found ≡ ReadFault
from_failed call went file most Came rose came from = elim from [
  | inl it ↦ came it.0 it.2
  | inr it ↦ unread_failed went.found file (deed call went).files it.2 rose
]

did_failed : (call : TopCall) (went : Went call) (asked : Asked) → call.files.before.reads.count < went.files.reads.count → Did asked (deed call went)
    → went.found ≡ ReadFault
did_failed call went (Asked.Runs file limits rounds recording) rose did =
    from_failed call went file _ _ rose (λ bytes came. absurd (rose_or_same (λ faults. faults.count) call.files.before.reads went.files.reads came.1 rose)) did
did_failed call went (Asked.Checks file limits) rose did =
    from_failed call went file _ _ rose (λ bytes came. absurd (rose_or_same (λ faults. faults.count) call.files.before.reads went.files.reads came.2 rose)) did
did_failed call went (Asked.Lists file limits) rose did =
    from_failed call went file _ _ rose (λ bytes came. absurd (rose_or_same (λ faults. faults.count) call.files.before.reads went.files.reads came.2 rose)) did
did_failed call went (Asked.Prints file limits) rose did =
    from_failed call went file _ _ rose (λ bytes came. absurd (rose_or_same (λ faults. faults.count) call.files.before.reads went.files.reads came.2 rose)) did
did_failed call went (Asked.Replays file journal limits) rose did =
    from_failed call went file _ _ rose (λ bytes came. elim came [
      | inl none ↦ absurd (rose_or_same (λ faults. faults.count) call.files.before.reads went.files.reads none.2 rose)
      | inr some ↦ from_failed call went journal _ _ rose
          (λ own replayed. absurd (rose_or_same (λ faults. faults.count) call.files.before.reads went.files.reads replayed.0 rose)) some.2
    ]) did
did_failed call went (Asked.Makes number) rose did =
    absurd (rose_or_same (λ faults. faults.count) call.files.before.reads went.files.reads did.2 rose)

read_failed : (call : TopCall) (went : Went call) → call.files.before.reads.count < call.files.after.reads.count → went.found ≡ ReadFault
read_failed call went rose =
    let here : call.files.before.reads.count < went.files.reads.count =
    subst (λ (n : ℕ). call.files.before.reads.count < n) (ap (λ f. f.count) (reads_found call went)) rose in
    elim went.performed [
      | inl usage ↦ absurd (rose_or_same (λ faults. faults.count) call.files.before.reads went.files.reads usage.4 here)
      | inr ran ↦ did_failed call went ran.0 here ran.3
    ]

read_unkept : (cause : Cause) → cause ≡ ReadFault → IsKept cause → ⊥
read_unkept cause is kept = let here : IsKept ReadFault = subst IsKept is kept in here

reads_show : (call : TopCall) (went : Went call) → went.found ≡ ReadFault
    → call.cause ≡ ReadFault ⊎ ((call.cause ≡ WriteFault) × HasFailed call.err) ⊎ call.cause ≡ OutOfMemory
reads_show call went read =
    let nothing = unkept call went (read_unkept went.found read) in
    elim (told_as went.found went.told went.name went.report (change call.err.before went.err) went.tells) [
      | inl same ↦ inl (nothing.same ∙ same ∙ read)
      | inr place ↦ elim place.1 [
        | inl memory ↦ inr (inr (nothing.same ∙ memory))
        | inr write ↦ inr (inl (
          nothing.same ∙ write.0,
          subst (λ (e : SinkState). HasFailed (change call.err.before e)) (sym nothing.quiet) write.1,
        ))
      ]
    ]

pub shows_write_faults : (call : TopCall) → Went call → ShowsWriteFaults call
shows_write_faults call went failed = elim failed [ inl err ↦ err_failed call went err | inr write ↦ write_failed call went write ]

pub shows_read_faults : (call : TopCall) → Went call → ShowsReadFaults call
shows_read_faults call went rose = reads_show call went (read_failed call went rose)
