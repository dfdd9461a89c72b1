-- What comes of a source, by the command and the cause.
use Rattle.std.specs.Prelude.{◌≡◌, ℕ, ◌+◌, ◌*◌, ◌<◌, ◌⊎◌, List, [], Some, Result, Ok, Err}
use Rattle.ink_base.specs.Limits.{limit_of}
use Rattle.ink_base.specs.declared.limits.Limit.TheVariants.{Source, Events}
use Rattle.ink_code.specs.declared.code.Code.{Code}
use Rattle.ink_code.specs.Listing.{listing_text}
use Rattle.ink_generator.specs.Generated.{generated}
use Rattle.ink_journal.specs.File.{Leaves}
use Rattle.ink_ranges.specs.Ranges.{IsWithin}
use Rattle.ink_reading.specs.Reading as reading
use Rattle.ink_round.specs.ReadsBack.{IsPrint}
use Rattle.ink_words.specs.Commands.{Word}
use Rattle.ink_causes.specs.Devices.{Change, FilesState, SinkState, Gets, Cuts}
use Rattle.ink_causes.specs.declared.cause.Cause.{Cause}
use Rattle.ink_causes.specs.declared.cause.Cause.TheVariants.{Accepted, Written, Refused, ReadFault, WriteFault, OutOfMemory, BadJournal, Unbuilt}
use Rattle.ink_commands.specs.Verdict.{IsOnlyVerdict, IsRefusedBy}
use Rattle.ink_commands.specs.Verdict as verdict

-- how many bytes of a source are read at most: one more than it may have, so that a longer one shows
abbrev pub most_read : List ℕ → ℕ
most_read limits = limit_of Source limits + 1

-- how many bytes of a journal's file are read at most: one more than the longest has
abbrev pub most_journal : List ℕ → ℕ
most_journal limits = 9 + 4 * limit_of Events limits + 1

-- the file gave no bytes, by the cause
abbrev pub IsUnread : Cause → Word → Change FilesState → Type 0
IsUnread cause file files =
    ((cause ≡ ReadFault) × (files.before.reads.count < files.after.reads.count) × (files.after.reads.name ≡ Some file))
    ⊎ ((cause ≡ OutOfMemory) × (files.after.reads ≡ files.before.reads))

-- nothing was run or written: there is no event, and the output is as it was
pub record IsIdle (journal : List ℕ) (out : Change SinkState) : Type 0 where
  pub no-event : journal ≡ []
  pub output : out.after ≡ out.before

-- what came of a source that is to be checked
abbrev pub CheckedSource : List ℕ → Cause → List ℕ → Type 0
CheckedSource limits Accepted bytes = IsOnlyVerdict limits bytes verdict.Further
CheckedSource limits (Refused refusal) bytes = IsRefusedBy limits bytes refusal
CheckedSource limits OutOfMemory bytes = Unit {0}
CheckedSource limits cause bytes = ⊥

-- why there is no code of a module that is accepted
abbrev pub IsLowerFault : Cause → Type 0
IsLowerFault Unbuilt = Unit {0}
IsLowerFault OutOfMemory = Unit {0}
IsLowerFault cause = ⊥

-- why there is no code of a source: it is refused, or no sound code was made of its module
abbrev pub HasNoCode : List ℕ → Cause → List ℕ → Type 0
HasNoCode limits (Refused refusal) bytes = IsRefusedBy limits bytes refusal
HasNoCode limits Unbuilt bytes = IsOnlyVerdict limits bytes verdict.Further
HasNoCode limits OutOfMemory bytes = Unit {0}
HasNoCode limits cause bytes = ⊥

-- the code that is made of a source, which has all that it names, or why there is none
abbrev pub MakesCode : List ℕ → List ℕ → Result Code Cause → Type 0
MakesCode limits bytes (Ok code) = IsOnlyVerdict limits bytes verdict.Further × IsWithin code
MakesCode limits bytes (Err cause) = HasNoCode limits cause bytes

-- A text was to be written, by the cause: the sink got it whole, or failed within it.
abbrev pub WritesText : List ℕ → Cause → Change SinkState → Type 0
WritesText text Written out = Gets out text
WritesText text WriteFault out = Cuts out text
WritesText text cause out = ⊥

-- What came of a source that is to be printed. Without memory nothing was written.
abbrev pub PrintedSource : List ℕ → Cause → List ℕ → Change SinkState → Type 0
PrintedSource limits (Refused refusal) bytes out =
    reading.ComesOnlyTo limits bytes (reading.Refuses refusal) × (out.after ≡ out.before)
PrintedSource limits OutOfMemory bytes out = out.after ≡ out.before
PrintedSource limits cause bytes out = (text : List ℕ) × IsPrint limits bytes text × WritesText text cause out

-- What came of a source whose code is to be listed.
abbrev pub ListedSource : List ℕ → Cause → List ℕ → Change SinkState → Type 0
ListedSource limits cause bytes out =
    (HasNoCode limits cause bytes × (out.after ≡ out.before))
    ⊎ ((code : Code) × MakesCode limits bytes (Ok code) × WritesText (listing_text code) cause out)

-- What came of a module that is to be made.
abbrev pub MadeModule : ℕ → Cause → Change SinkState → Type 0
MadeModule number OutOfMemory out = out.after ≡ out.before
MadeModule number cause out = WritesText (generated number) cause out

-- why the bytes of a file give no journal
abbrev pub IsNoJournal : List ℕ → Cause → List ℕ → Type 0
IsNoJournal limits (BadJournal right) bytes = Leaves (limit_of Events limits) bytes right
IsNoJournal limits OutOfMemory bytes = Unit {0}
IsNoJournal limits cause bytes = ⊥
