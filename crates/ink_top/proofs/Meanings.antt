-- What a cause means of a call.
use Rattle.std.proofs.Common.{◌≡◌, ℕ, ◌<◌, ◌⊎◌, inl, inr, List, [], Option, Some, refl, sym, subst}
use Rattle.ink_base.specs.declared.refusal.Refusal.{Refusal}
use Rattle.ink_devices.specs.Outside.{Reads}
use Rattle.ink_words.specs.Commands.{Word, Asked, IsOrder}
use Rattle.ink_code.specs.declared.code.Code.{Code}
use Rattle.ink_code.specs.Listing.{listing_text}
use Rattle.ink_generator.specs.Generated.{generated}
use Rattle.ink_causes.specs.Devices.{Change, FilesState, SinkState}
use Rattle.ink_causes.specs.declared.cause.Cause.{Cause}
use Rattle.ink_causes.specs.declared.cause.Cause.TheVariants.{Quiet, Accepted, Written, Refused, Usage, ReadFault, WriteFault, OutOfMemory, Waiting, EventLimit, LocalLimit, RoundLimit, JournalEnds, BadJournal, BadEntry, Panicked, Wrong, Unbuilt}
use Rattle.ink_commands.specs.Orders.{Deed, Came, Did, FromFile, RanSource, ReplayedSource, ReplayedBytes, file_of, limits_of}
use Rattle.ink_commands.specs.Runs.{RanCode, StopsRun, StopsReplay}
use Rattle.ink_commands.specs.Sources.{most_read, most_journal, IsUnread, IsIdle, CheckedSource, HasNoCode, IsNoJournal, PrintedSource, ListedSource, MadeModule, WritesText}
use Rattle.ink_commands.specs.Verdict.{IsFurther, IsRefusedBy}
use Rattle.ink_commands.specs.Verdict as verdict
use Rattle.ink_names.specs.Later.{IsLater}
use Rattle.ink_ranges.specs.Ranges.{IsWithin}
use Rattle.ink_top.specs.Headline as headline
use Rattle.ink_top.specs.Headline.{TopCall, IsUntouched, HasSource, HasModule, RunsModule, IsTextFor, MayRefuse, IsToRead, Means}
use Rattle.ink_top.specs.Keeping.{IsKept}
use Rattle.ink_top.proofs.Ending.{Went, deed, untouched, unkept}

-- What is known of a call whose cause, as it was found, is this: where no journal is kept after it, what was idle did
-- nothing, and the files stand as they were found.
record Sits (call : TopCall) (files : FilesState) (cause : Cause) : Type 0 where
  undone : (IsKept cause → ⊥) → IsIdle call.journal call.out → IsUntouched call
  same : (IsKept cause → ⊥) → call.files.after ≡ files

-- a source whose words name it
pub has_source : (call : TopCall) (asked : Asked) (file : Word) (bytes : List ℕ) → IsOrder asked call.words → file_of asked ≡ Some file
    → Reads call.files.before.held file (most_read (limits_of asked)) bytes → HasSource call asked bytes
has_source call asked file bytes words named read = record { words = words; file = file; named = named; read = read }

pub has_module : (call : TopCall) (asked : Asked) (bytes : List ℕ) → HasSource call asked bytes → IsFurther (limits_of asked) bytes → HasModule call asked
has_module call asked bytes source further = record { bytes = bytes; source = source; further = further }

-- a text, a run and a replay

text_means : (call : TopCall) (text : List ℕ) (cause : Cause) → IsTextFor call text → call.journal ≡ [] → WritesText text cause call.out → Means cause call
text_means call text Written for none writes = (text, for, none, writes)
text_means call text WriteFault for none writes = inl (text, for, none, writes)
text_means call text cause for none writes = absurd writes

run_means : (call : TopCall) (cause : Cause) → StopsRun cause → RunsModule call cause → Means cause call
run_means call Quiet stops runs = runs
run_means call (Waiting process) stops runs = runs
run_means call (Panicked process) stops runs = runs
run_means call (EventLimit process) stops runs = runs
run_means call (LocalLimit process steps) stops runs = runs
run_means call (RoundLimit rounds) stops runs = runs
run_means call (Wrong process) stops runs = runs
run_means call WriteFault stops runs = inr (inl runs)
run_means call OutOfMemory stops runs = inr (OutOfMemory, runs)
run_means call cause stops runs = absurd stops

replay_means : (call : TopCall) (cause : Cause) → StopsReplay cause → RunsModule call cause → Means cause call
replay_means call (JournalEnds process) stops runs = runs
replay_means call (BadEntry entry) stops runs = runs
replay_means call cause stops runs = run_means call cause stops runs

-- why there is no code

no_code_means : (call : TopCall) (files : FilesState) (asked : Asked) (limits bytes : List ℕ) (cause : Cause) → Sits call files cause
    → IsIdle call.journal call.out → HasSource call asked bytes → ((refusal : Refusal) → IsRefusedBy limits bytes refusal → MayRefuse asked bytes refusal)
    → (IsFurther limits bytes → HasModule call asked) → HasNoCode limits cause bytes → Means cause call
no_code_means call files asked limits bytes (Refused refusal) sits idle has refuses further none =
    (sits.undone (λ kept. kept) idle, (asked, bytes, has, refuses refusal none))
no_code_means call files asked limits bytes Unbuilt sits idle has refuses further none =
    (sits.undone (λ kept. kept) idle, (asked, further none.is))
no_code_means call files asked limits bytes OutOfMemory sits idle has refuses further none = inl (sits.undone (λ kept. kept) idle)
no_code_means call files asked limits bytes cause sits idle has refuses further none = absurd none

-- why a file wasn't read

unread_means : (call : TopCall) (files : FilesState) (cause : Cause) (file : Word) → Sits call files cause → IsIdle call.journal call.out → IsToRead call file
    → IsUnread cause file (record { before = call.files.before; after = files }) → Means cause call
unread_means call files cause file sits idle to unread =
    let M : Cause → Type 0 = λ c. Means c call in
    elim unread [
      | inl read ↦
          let S : Cause → Type 0 = λ c. Sits call files c in
          let here : Sits call files ReadFault = subst S read.0 sits in
          let R : FilesState → Type 0 = λ f. (call.files.before.reads.count < f.reads.count) × (f.reads.name ≡ Some file) in
          let rose : R call.files.after = subst R (sym (here.same (λ kept. kept))) (read.1, read.2) in
          subst M (sym read.0) (here.undone (λ kept. kept) idle, (file, to, rose.0, rose.1))
      | inr memory ↦
          let S : Cause → Type 0 = λ c. Sits call files c in
          let here : Sits call files OutOfMemory = subst S memory.0 sits in
          subst M (sym memory.0) (inl (here.undone (λ kept. kept) idle))
    ]

-- what came of the source of each command

refused_or_later : (limits bytes : List ℕ) (asked : Asked) (refusal : Refusal) → IsRefusedBy limits bytes refusal
    → (verdict.IsRefused limits bytes refusal ⊎ (IsFurther limits bytes × IsLater refusal))
refused_or_later limits bytes asked refusal refused = elim refused [ inl it ↦ inl it.is | inr it ↦ inr (it.0.is, it.1) ]

check_means : (call : TopCall) (files : FilesState) (file : Word) (limits bytes : List ℕ) (cause : Cause) → Sits call files cause
    → IsIdle call.journal call.out → HasSource call (Asked.Checks file limits) bytes → CheckedSource limits cause bytes → Means cause call
check_means call files file limits bytes Accepted sits idle has checked =
    (sits.undone (λ kept. kept) idle, (file, limits, has_module call (Asked.Checks file limits) bytes has checked.is))
check_means call files file limits bytes (Refused refusal) sits idle has checked =
    (sits.undone (λ kept. kept) idle, (Asked.Checks file limits, bytes, has, refused_or_later limits bytes (Asked.Checks file limits) refusal checked))
check_means call files file limits bytes OutOfMemory sits idle has checked = inl (sits.undone (λ kept. kept) idle)
check_means call files file limits bytes cause sits idle has checked = absurd checked

print_means : (call : TopCall) (files : FilesState) (file : Word) (limits bytes : List ℕ) (cause : Cause) → Sits call files cause
    → call.journal ≡ [] → HasSource call (Asked.Prints file limits) bytes → PrintedSource limits cause bytes call.out → Means cause call
print_means call files file limits bytes (Refused refusal) sits none has printed =
    (sits.undone (λ kept. kept) (record { no-event = none; output = printed.1 }), (Asked.Prints file limits, bytes, has, printed.0.comes))
print_means call files file limits bytes OutOfMemory sits none has printed =
    inl (sits.undone (λ kept. kept) (record { no-event = none; output = printed }))
print_means call files file limits bytes cause sits none has printed =
    text_means call printed.0 cause (headline.prints file limits bytes printed.0 has printed.1) none printed.2

list_means : (call : TopCall) (files : FilesState) (file : Word) (limits bytes : List ℕ) (cause : Cause) → Sits call files cause
    → call.journal ≡ [] → HasSource call (Asked.Lists file limits) bytes → ListedSource limits cause bytes call.out → Means cause call
list_means call files file limits bytes cause sits none has listed =
    let asked : Asked = Asked.Lists file limits in
    elim listed [
      | inl it ↦ no_code_means call files asked limits bytes cause sits (record { no-event = none; output = it.1 }) has
          (refused_or_later limits bytes asked) (has_module call asked bytes has) it.0
      | inr it ↦ text_means call (listing_text it.0) cause
          (headline.lists file limits it.0 it.1.1 (has_module call asked bytes has it.1.0.is)) none it.2
    ]

make_means : (call : TopCall) (files : FilesState) (number : ℕ) (cause : Cause) → Sits call files cause → call.journal ≡ []
    → IsOrder (Asked.Makes number) call.words → MadeModule number cause call.out → Means cause call
make_means call files number OutOfMemory sits none order made = inl (sits.undone (λ kept. kept) (record { no-event = none; output = made }))
make_means call files number cause sits none order made = text_means call (generated number) cause (headline.makes number order) none made

run_source_means : (call : TopCall) (files : FilesState) (it : Deed) (file : Word) (limits : List ℕ) (rounds : Option ℕ) (recording : Option Word)
    (bytes : List ℕ) → it.journal ≡ call.journal → it.out ≡ call.out → Sits call files it.cause
    → HasSource call (Asked.Runs file limits rounds recording) bytes → RanSource limits rounds it bytes → Means it.cause call
run_source_means call files it file limits rounds recording bytes journal out sits has ran =
    let asked : Asked = Asked.Runs file limits rounds recording in
    elim ran [
      | inl none ↦
          let quiet : IsIdle call.journal it.out = subst (λ (j : List ℕ). IsIdle j it.out) journal none.1 in
          no_code_means call files asked limits bytes it.cause sits (subst (λ (o : Change SinkState). IsIdle call.journal o) out quiet) has
          (refused_or_later limits bytes asked) (has_module call asked bytes has) none.0
      | inr some ↦
          let left : RanCode some.0 limits rounds it.cause call.journal it.out = subst (λ (j : List ℕ). RanCode some.0 limits rounds it.cause j it.out) journal some.2 in
          let came : RanCode some.0 limits rounds it.cause call.journal call.out = subst (λ (o : Change SinkState). RanCode some.0 limits rounds it.cause call.journal o) out left in
          run_means call it.cause came.stops
          (record { asked = asked; accepted = has_module call asked bytes has some.1.0.is; code = some.0; within = some.1.1; came = came })
    ]

no_journal_means : (call : TopCall) (files : FilesState) (file journal : Word) (limits bytes : List ℕ) (cause : Cause) → Sits call files cause
    → IsIdle call.journal call.out → HasModule call (Asked.Replays file journal limits)
    → Reads call.files.before.held journal (most_journal limits) bytes → IsNoJournal limits cause bytes → Means cause call
no_journal_means call files file journal limits bytes (BadJournal right) sits idle has reads none =
    (sits.undone (λ kept. kept) idle, (file, journal, limits, bytes, has, reads, none))
no_journal_means call files file journal limits bytes OutOfMemory sits idle has reads none = inl (sits.undone (λ kept. kept) idle)
no_journal_means call files file journal limits bytes cause sits idle has reads none = absurd none

entries_mean : (call : TopCall) (files : FilesState) (file journal : Word) (limits bytes : List ℕ) (code : Code) (cause : Cause) (report : List ℕ) → IsWithin code → Sits call files cause
    → HasModule call (Asked.Replays file journal limits) → Reads call.files.before.held journal (most_journal limits) bytes
    → ReplayedBytes code limits cause bytes call.journal report call.out → Means cause call
entries_mean call files file journal limits bytes code cause report within sits has reads replayed = elim replayed [
  | inl none ↦ no_journal_means call files file journal limits bytes cause sits none.1 has reads none.0
  | inr some ↦ replay_means call cause some.2.stops (record {
    asked = Asked.Replays file journal limits;
    accepted = has;
    code = code;
    within = within;
    came = (some.0, record { bytes = bytes; read = reads; is-file = some.1 }, some.2);
  })
]

replay_source_means : (call : TopCall) (went : Went call) (file journal : Word) (limits bytes : List ℕ) → Sits call went.files went.found
    → HasSource call (Asked.Replays file journal limits) bytes → ReplayedSource limits journal (deed call went) bytes → Means went.found call
replay_source_means call went file journal limits bytes sits has replayed =
    let asked : Asked = Asked.Replays file journal limits in
    elim replayed [
      | inl none ↦ no_code_means call went.files asked limits bytes went.found sits none.1 has
          (refused_or_later limits bytes asked) (has_module call asked bytes has) none.0
      | inr some ↦
          let module_is : HasModule call asked = has_module call asked bytes has some.1.0.is in
          elim some.2 [
            | inl it ↦ entries_mean call went.files file journal limits it.0 some.0 went.found went.report some.1.1 sits module_is it.1 it.2.1
            | inr it ↦ unread_means call went.files went.found journal sits it.1 (inr (file, limits, module_is)) it.2
          ]
    ]

sits : (call : TopCall) (went : Went call) → Sits call went.files went.found
sits call went = record {
  undone = λ not idle. untouched call went not idle;
  same = λ not. (unkept call went not).kept;
}

from_means : (call : TopCall) (went : Went call) (asked : Asked) (file : Word) → IsOrder asked call.words → file_of asked ≡ Some file
    → ((bytes : List ℕ) → HasSource call asked bytes → Came asked (deed call went) bytes → Means went.found call)
    → FromFile file (most_read (limits_of asked)) (Came asked (deed call went)) (deed call went) → Means went.found call
from_means call went asked file order named came from = elim from [
  | inl it ↦ came it.0 (has_source call asked file it.0 order named it.1) it.2
  | inr it ↦ unread_means call went.files went.found file (sits call went) it.1 (inl (asked, order, named)) it.2
]

order_means : (call : TopCall) (went : Went call) (asked : Asked) → IsOrder asked call.words → Did asked (deed call went) → Means went.found call
order_means call went (Asked.Runs file limits rounds recording) order did =
    from_means call went (Asked.Runs file limits rounds recording) file order refl
    (λ bytes has came. run_source_means call went.files (deed call went) file limits rounds recording bytes refl refl (sits call went) has came.0) did
order_means call went (Asked.Checks file limits) order did =
    from_means call went (Asked.Checks file limits) file order refl
    (λ bytes has came. check_means call went.files file limits bytes went.found (sits call went) came.1 has came.0) did
order_means call went (Asked.Lists file limits) order did =
    from_means call went (Asked.Lists file limits) file order refl
    (λ bytes has came. list_means call went.files file limits bytes went.found (sits call went) came.1 has came.0) did
order_means call went (Asked.Prints file limits) order did =
    from_means call went (Asked.Prints file limits) file order refl
    (λ bytes has came. print_means call went.files file limits bytes went.found (sits call went) came.1 has came.0) did
order_means call went (Asked.Replays file journal limits) order did =
    from_means call went (Asked.Replays file journal limits) file order refl
    (λ bytes has came. replay_source_means call went file journal limits bytes (sits call went) has came) did
order_means call went (Asked.Makes number) order did = make_means call went.files number went.found (sits call went) did.1 order did.0

pub found_means : (call : TopCall) (went : Went call) → Means went.found call
found_means call went =
    let M : Cause → Type 0 = λ c. Means c call in
    let S : Cause → Type 0 = λ c. Sits call went.files c in
    elim went.performed [
      | inl usage ↦
          let here : Sits call went.files (Usage usage.0) = subst S usage.1 (sits call went) in
          subst M (sym usage.1) (here.undone (λ kept. kept) usage.3, usage.2)
      | inr ran ↦ order_means call went ran.0 ran.1 ran.3
    ]
