-- What comes of an order, by the cause, before it is told.
use Rattle.std.specs.Prelude.{◌≡◌, ℕ, ◌⊎◌, List, [], Option, None, Some, Result, Ok, Err}
use Rattle.ink_base.specs.Limits.{limit_of}
use Rattle.ink_base.specs.declared.limits.Limit.TheVariants.{Events}
use Rattle.ink_devices.specs.Outside.{Reads}
use Rattle.ink_code.specs.declared.code.Code.{Code}
use Rattle.ink_journal.specs.File.{IsFile}
use Rattle.ink_words.specs.Commands.{Word, Asked}
use Rattle.ink_causes.specs.Devices.{Change, FilesState, SinkState}
use Rattle.ink_causes.specs.declared.cause.Cause.{Cause}
use Rattle.ink_commands.specs.Reports.{Reports}
use Rattle.ink_commands.specs.Runs.{RanCode, ReplayedCode}
use Rattle.ink_commands.specs.Sources.{most_read, most_journal, IsUnread, IsIdle, CheckedSource, HasNoCode, MakesCode, PrintedSource, ListedSource, MadeModule, IsNoJournal}

-- What a call did, before it is told: the cause, the name of the file that was to be read last, how the files changed, the
-- journal, the report of a panic, and how the output changed.
pub record Deed : Type 0 where
  pub cause : Cause
  pub name : Word
  pub files : Change FilesState
  pub journal : List ℕ
  pub report : List ℕ
  pub out : Change SinkState

-- the deed of a call that found these files and this output, and left those
abbrev pub deed_of : Cause → Word → Change FilesState → List ℕ → List ℕ → Change SinkState → Deed
deed_of cause name files journal report out =
    record { cause = cause; name = name; files = files; journal = journal; report = report; out = out }

-- A file was read, and this came of its first bytes, at most so many. Or it was not, and nothing was done.
abbrev pub FromFile : Word → ℕ → (List ℕ → Type 0) → Deed → Type 0
FromFile file most Came deed =
    ((bytes : List ℕ) × Reads deed.files.before.held file most bytes × Came bytes)
    ⊎ ((deed.name ≡ file) × IsIdle deed.journal deed.out × IsUnread deed.cause file deed.files)

-- a file was read and the code of its module made, or a cause why there is none
abbrev pub CodeOfFile : Result Code Cause → Word → List ℕ → Change FilesState → Type 0
CodeOfFile (Ok code) file limits files =
    (bytes : List ℕ) × Reads files.before.held file (most_read limits) bytes × (files.after.reads ≡ files.before.reads) × MakesCode limits bytes (Ok code)
CodeOfFile (Err cause) file limits files =
    ((bytes : List ℕ) × Reads files.before.held file (most_read limits) bytes × (files.after.reads ≡ files.before.reads) × HasNoCode limits cause bytes)
    ⊎ IsUnread cause file files

-- no read failed
abbrev pub ReadsWell : Deed → Type 0
ReadsWell deed = deed.files.after.reads ≡ deed.files.before.reads

-- what came of a source that is to run
abbrev pub RanSource : List ℕ → Option ℕ → Deed → List ℕ → Type 0
RanSource limits rounds deed bytes =
    (HasNoCode limits deed.cause bytes × IsIdle deed.journal deed.out)
    ⊎ ((code : Code) × MakesCode limits bytes (Ok code) × RanCode code limits rounds deed.cause deed.journal deed.out
    × Reports deed.cause code limits deed.journal deed.report)

-- what came of the bytes of a journal's file, by which a code is to be replayed
abbrev pub ReplayedBytes : Code → List ℕ → Cause → List ℕ → List ℕ → List ℕ → Change SinkState → Type 0
ReplayedBytes code limits cause bytes journal report out =
    (IsNoJournal limits cause bytes × IsIdle journal out)
    ⊎ ((entries : List ℕ) × IsFile (limit_of Events limits) bytes entries × ReplayedCode code limits entries cause journal out
    × Reports cause code limits journal report)

abbrev pub ReplayedEntries : Code → List ℕ → Deed → List ℕ → Type 0
ReplayedEntries code limits deed bytes = ReadsWell deed × ReplayedBytes code limits deed.cause bytes deed.journal deed.report deed.out

-- what came of a source that is to be replayed by the journal of a file
abbrev pub ReplayedSource : List ℕ → Word → Deed → List ℕ → Type 0
ReplayedSource limits file deed bytes =
    (HasNoCode limits deed.cause bytes × IsIdle deed.journal deed.out × ReadsWell deed)
    ⊎ ((code : Code) × MakesCode limits bytes (Ok code) × FromFile file (most_journal limits) (ReplayedEntries code limits deed) deed)

-- what came of the source of an order
abbrev pub Came : Asked → Deed → List ℕ → Type 0
Came (Asked.Runs file limits rounds recording) deed bytes = RanSource limits rounds deed bytes × ReadsWell deed
Came (Asked.Checks file limits) deed bytes = CheckedSource limits deed.cause bytes × IsIdle deed.journal deed.out × ReadsWell deed
Came (Asked.Lists file limits) deed bytes = ListedSource limits deed.cause bytes deed.out × (deed.journal ≡ []) × ReadsWell deed
Came (Asked.Prints file limits) deed bytes = PrintedSource limits deed.cause bytes deed.out × (deed.journal ≡ []) × ReadsWell deed
Came (Asked.Replays file journal limits) deed bytes = ReplayedSource limits journal deed bytes
Came (Asked.Makes number) deed bytes = ⊥

-- what came of an order
abbrev pub Did : Asked → Deed → Type 0
Did (Asked.Runs file limits rounds recording) deed = FromFile file (most_read limits) (Came (Asked.Runs file limits rounds recording) deed) deed
Did (Asked.Checks file limits) deed = FromFile file (most_read limits) (Came (Asked.Checks file limits) deed) deed
Did (Asked.Lists file limits) deed = FromFile file (most_read limits) (Came (Asked.Lists file limits) deed) deed
Did (Asked.Prints file limits) deed = FromFile file (most_read limits) (Came (Asked.Prints file limits) deed) deed
Did (Asked.Replays file journal limits) deed = FromFile file (most_read limits) (Came (Asked.Replays file journal limits) deed) deed
Did (Asked.Makes number) deed = MadeModule number deed.cause deed.out × (deed.journal ≡ []) × ReadsWell deed

-- the file of an order's source, and its limits; none where it makes a module
abbrev pub file_of : Asked → Option Word
file_of (Asked.Runs file limits rounds recording) = Some file
file_of (Asked.Checks file limits) = Some file
file_of (Asked.Lists file limits) = Some file
file_of (Asked.Prints file limits) = Some file
file_of (Asked.Replays file journal limits) = Some file
file_of (Asked.Makes number) = None

abbrev pub limits_of : Asked → List ℕ
limits_of (Asked.Runs file limits rounds recording) = limits
limits_of (Asked.Checks file limits) = limits
limits_of (Asked.Lists file limits) = limits
limits_of (Asked.Prints file limits) = limits
limits_of (Asked.Replays file journal limits) = limits
limits_of (Asked.Makes number) = []
