-- What the top call promises.
use Rattle.std.specs.Prelude.{◌≡◌, ℕ, ◌<◌, ◌⊎◌, List, [], ◌++◌, take, Option, None, Some, option_map}
use Rattle.ink_base.specs.Limits.{limit_of}
use Rattle.ink_base.specs.Numbered.{numbered}
use Rattle.ink_base.specs.declared.limits.Limit.TheVariants.{Events}
use Rattle.ink_base.specs.declared.token.Token.{Token}
use Rattle.ink_base.specs.declared.refusal.Refusal.{Refusal}
use Rattle.ink_devices.specs.Outside.{Directory, Reads, appended}
use Rattle.ink_words.specs.Commands.{Word, Asked, IsOrder, IsWrongWord, recording_of}
use Rattle.ink_code.specs.declared.code.Code.{Code}
use Rattle.ink_code.specs.Listing.{listing_text}
use Rattle.ink_code.specs.Readings.{Event, Events as AreEvents, messages_handled, messages_sent}
use Rattle.ink_code.specs.Runs.{World}
use Rattle.ink_generator.specs.Generated.{generated}
use Rattle.ink_grammar.specs.Tree.{Tree}
use Rattle.ink_journal.specs.File.{IsFile, Leaves}
use Rattle.ink_law_turns.specs.Order.{Begins, Rise, sent_to}
use Rattle.ink_names.specs.Later.{IsLater}
use Rattle.ink_print.specs.Layout.{print}
use Rattle.ink_ranges.specs.Ranges.{IsWithin}
use Rattle.ink_reading.specs.Reading as reading
use Rattle.ink_round.specs.ReadsBack.{IsPrint, ReadsBack}
use Rattle.ink_causes.specs.Causes.{cause_text, IsFault}
use Rattle.ink_causes.specs.Devices.{Change, FilesState, SinkState, KeepsFiles, HasFailed, Gets, Cuts}
use Rattle.ink_causes.specs.Telling.{IsFront, IsCutFront}
use Rattle.ink_causes.specs.declared.cause.Cause.{Cause}
use Rattle.ink_causes.specs.declared.cause.Cause.TheVariants.{Accepted, Written, Refused, Usage, ReadFault, WriteFault, OutOfMemory, BadJournal, Panicked, Wrong, Unbuilt}
use Rattle.ink_commands.specs.Orders.{file_of, limits_of}
use Rattle.ink_commands.specs.Reports.{IsReport}
use Rattle.ink_commands.specs.Runs.{RanCode, ReplayedCode}
use Rattle.ink_commands.specs.Sources.{most_read, most_journal}
use Rattle.ink_commands.specs.Verdict.{IsFurther}
use Rattle.ink_commands.specs.Verdict as verdict
use Rattle.ink_top.specs.Keeping.{IsKept, Records, FailsToRecord}

-- A call, as it is seen from outside: its words, how each device changed, and what it answered.
pub record TopCall : Type 0 where
  pub words : List Word
  pub files : Change FilesState
  pub out : Change SinkState
  pub err : Change SinkState
  pub cause : Cause
  pub journal : List ℕ

-- the call did nothing: there is no event, and output and files are as they were
pub record IsUntouched (call : TopCall) : Type 0 where
  pub no-event : call.journal ≡ []
  pub output : call.out.after ≡ call.out.before
  pub kept : KeepsFiles call.files

-- These are the first bytes under a name, at most so many. It holds only where the files tell what they hold.
abbrev pub StandUnder : Option Directory → Word → ℕ → List ℕ → Type 0
StandUnder None file most bytes = ⊥
StandUnder (Some directory) file most bytes = option_map (take most) (directory file) ≡ Some bytes

-- the words ask for this, and these are the first bytes of its file
pub record TakesSource (call : TopCall) (asked : Asked) (bytes : List ℕ) : Type 0 where
  pub words : IsOrder asked call.words
  pub file : Word
  pub named : file_of asked ≡ Some file
  pub stands : StandUnder call.files.before.held file (most_read (limits_of asked)) bytes

-- what a command refuses of a source by its reading: what is judged, also that it has no token
abbrev pub IsRefused : Asked → List ℕ → Refusal → Type 0
IsRefused (Asked.Prints file limits) bytes refusal = reading.ComesTo limits bytes (reading.Refuses refusal)
IsRefused asked bytes refusal = verdict.IsRefused (limits_of asked) bytes refusal

-- A refused module: nothing was done, and the cause is the refusal, unless a device failed or memory ran out.
abbrev pub RefusesModule : TopCall → Type 0
RefusesModule call = (asked : Asked) (bytes : List ℕ) (refusal : Refusal)
    → TakesSource call asked bytes → IsRefused asked bytes refusal
    → IsUntouched call × (call.cause ≡ Refused refusal ⊎ IsFault call.cause)

-- a phase behind the reading refuses it
abbrev pub IsLaterRefused : Cause → Type 0
IsLaterRefused cause = (refusal : Refusal) × (cause ≡ Refused refusal) × IsLater refusal

-- A module that is to be checked, and that the phases behind the reading judge: nothing was done, and the cause is a
-- refusal of theirs or says that it is accepted, unless a device failed or memory ran out.
abbrev pub JudgesModule : TopCall → Type 0
JudgesModule call = (file : Word) (limits bytes : List ℕ) → TakesSource call (Asked.Checks file limits) bytes → IsFurther limits bytes
    → IsUntouched call × (IsLaterRefused call.cause ⊎ (call.cause ≡ Accepted) ⊎ IsFault call.cause)

-- a text was to be written: there is no event, and the output got it whole; after a write fault it may have got a part, cut
-- where it failed, and after any other fault it got nothing
abbrev pub WritesWhole : TopCall → List ℕ → Type 0
WritesWhole call text = (call.journal ≡ []) × (((call.cause ≡ Written) × Gets call.out text)
    ⊎ ((call.cause ≡ WriteFault) × Cuts call.out text)
    ⊎ (IsFault call.cause × (call.out.after ≡ call.out.before)))

-- The print of a module that is read is written.
abbrev pub WritesPrint : TopCall → Type 0
WritesPrint call = (file : Word) (limits bytes : List ℕ) (tokens : List Token) (tree : Tree)
    → TakesSource call (Asked.Prints file limits) bytes → reading.ComesTo limits bytes (reading.Reads tokens tree)
    → WritesWhole call (print bytes tree)

-- That print is read as the same module, but for the places of its tokens.
abbrev pub KeepsModule : TopCall → Type 0
KeepsModule call = (file : Word) (limits bytes : List ℕ) (tokens : List Token) (tree : Tree)
    → TakesSource call (Asked.Prints file limits) bytes → reading.ComesTo limits bytes (reading.Reads tokens tree)
    → ReadsBack bytes (print bytes tree) tree

-- The module that is made for a number is written.
abbrev pub WritesModule : TopCall → Type 0
WritesModule call = (number : ℕ) → IsOrder (Asked.Makes number) call.words → WritesWhole call (generated number)

-- Of a module that the phases behind the reading judge the listing of a code is written, which has all that it names. Or nothing was done, and the cause
-- is a refusal of theirs or says that no sound code was made, unless a device failed or memory ran out.
abbrev pub WritesListing : TopCall → Type 0
WritesListing call = (file : Word) (limits bytes : List ℕ) → TakesSource call (Asked.Lists file limits) bytes → IsFurther limits bytes
    → (IsUntouched call × (IsLaterRefused call.cause ⊎ (call.cause ≡ Unbuilt) ⊎ IsFault call.cause))
    ⊎ ((code : Code) × IsWithin code × WritesWhole call (listing_text code))

-- Wrong words: nothing was done, and the cause names the first that is wrong, unless a device failed or memory ran out.
abbrev pub RefusesWords : TopCall → Type 0
RefusesWords call = (number : ℕ) → IsWrongWord call.words number
    → IsUntouched call × (call.cause ≡ Usage number ⊎ IsFault call.cause)

-- the words ask for this, and these are the first bytes of its file, where the files tell that
pub record HasSource (call : TopCall) (asked : Asked) (bytes : List ℕ) : Type 0 where
  pub words : IsOrder asked call.words
  pub file : Word
  pub named : file_of asked ≡ Some file
  pub read : Reads call.files.before.held file (most_read (limits_of asked)) bytes

-- a module is accepted: the phases behind the reading judge it
pub record HasModule (call : TopCall) (asked : Asked) : Type 0 where
  pub bytes : List ℕ
  pub source : HasSource call asked bytes
  pub further : IsFurther (limits_of asked) bytes

-- these entries stand in the file of a journal
pub record HasEntries (call : TopCall) (file : Word) (limits entries : List ℕ) : Type 0 where
  pub bytes : List ℕ
  pub read : Reads call.files.before.held file (most_journal limits) bytes
  pub is-file : IsFile (limit_of Events limits) bytes entries

-- what came of a code, by what is asked and this cause
abbrev pub CameOfCode : TopCall → Asked → Code → Cause → Type 0
CameOfCode call (Asked.Runs file limits rounds recording) code cause = RanCode code limits rounds cause call.journal call.out
CameOfCode call (Asked.Replays file journal limits) code cause =
    (entries : List ℕ) × HasEntries call journal limits entries × ReplayedCode code limits entries cause call.journal call.out
CameOfCode call asked code cause = ⊥

-- a module is run or replayed by the code that was made of it, which has all that it names, and stops for this cause
pub record RunsModule (call : TopCall) (cause : Cause) : Type 0 where
  pub asked : Asked
  pub accepted : HasModule call asked
  pub code : Code
  pub within : IsWithin code
  pub came : CameOfCode call asked code cause

-- a text that the words ask for: a print, the listing of a code, or the module for a number
pub data IsTextFor (call : TopCall) : List ℕ → Type 0 where
  prints : (file : Word) (limits bytes text : List ℕ) → HasSource call (Asked.Prints file limits) bytes → IsPrint limits bytes text → IsTextFor call text
  lists : (file : Word) (limits : List ℕ) (code : Code) → IsWithin code → HasModule call (Asked.Lists file limits) → IsTextFor call (listing_text code)
  makes : (number : ℕ) → IsOrder (Asked.Makes number) call.words → IsTextFor call (generated number)

-- a call that judges, of which this refusal is told
abbrev pub MayRefuse : Asked → List ℕ → Refusal → Type 0
MayRefuse (Asked.Prints file limits) bytes refusal = reading.ComesTo limits bytes (reading.Refuses refusal)
MayRefuse asked bytes refusal =
    verdict.IsRefused (limits_of asked) bytes refusal ⊎ (IsFurther (limits_of asked) bytes × IsLater refusal)

-- the output failed within the text that was asked for
abbrev pub CutsText : TopCall → Type 0
CutsText call = (text : List ℕ) × IsTextFor call text × (call.journal ≡ []) × Cuts call.out text

-- a run ended for this cause, after which its journal is kept, and the file for that could not be written
pub record UnrecordedRun (call : TopCall) : Type 0 where
  pub cause : Cause
  pub kept : IsKept cause
  pub ran : RunsModule call cause
  pub name : Word
  pub asks : recording_of ran.asked ≡ Some name
  pub fails : FailsToRecord name call.files

-- the call did nothing, or ran a module
abbrev pub IsUntouchedOrRuns : TopCall → Type 0
IsUntouchedOrRuns call = IsUntouched call ⊎ ((cause : Cause) × RunsModule call cause)

-- the file was to be read: it is that of the source, or the journal that an accepted module is to be replayed by
abbrev pub IsToRead : TopCall → Word → Type 0
IsToRead call file =
    ((asked : Asked) × IsOrder asked call.words × (file_of asked ≡ Some file))
    ⊎ ((source : Word) × (limits : List ℕ) × HasModule call (Asked.Replays source file limits))

-- The table of causes: what each one says of a call.
abbrev pub Means : Cause → TopCall → Type 0
Means Accepted call = IsUntouched call × ((file : Word) × (limits : List ℕ) × HasModule call (Asked.Checks file limits))
Means Written call = (text : List ℕ) × IsTextFor call text × (call.journal ≡ []) × Gets call.out text
Means (Refused refusal) call = IsUntouched call × ((asked : Asked) × (bytes : List ℕ) × HasSource call asked bytes × MayRefuse asked bytes refusal)
Means (Usage number) call = IsUntouched call × IsWrongWord call.words number
Means ReadFault call = IsUntouched call × ((file : Word) × IsToRead call file
    × (call.files.before.reads.count < call.files.after.reads.count) × (call.files.after.reads.name ≡ Some file))
-- the output failed, or what was to be told, or the file of the journal
Means WriteFault call = CutsText call ⊎ RunsModule call WriteFault ⊎ (IsUntouchedOrRuns call × HasFailed call.err) ⊎ UnrecordedRun call
-- memory may run out at any time: of a text nothing was written then
Means OutOfMemory call = IsUntouchedOrRuns call
Means (BadJournal right) call = IsUntouched call × ((file journal : Word) × (limits bytes : List ℕ)
    × HasModule call (Asked.Replays file journal limits) × Reads call.files.before.held journal (most_journal limits) bytes
    × Leaves (limit_of Events limits) bytes right)
Means Unbuilt call = IsUntouched call × ((asked : Asked) × HasModule call asked)
-- a run or a replay stopped for it
Means cause call = RunsModule call cause

-- the cause means what the table says
abbrev pub MeansCause : TopCall → Type 0
MeansCause call = Means call.cause call

-- a run ended, or came to a limit, and the file that is to get its journal holds it
pub record RecordedRun (call : TopCall) : Type 0 where
  pub kept : IsKept call.cause
  pub ran : RunsModule call call.cause
  pub name : Word
  pub asks : recording_of ran.asked ≡ Some name
  pub records : Records name call.journal call.files

-- The files are as they were, but for the one that gets the journal: that holds it, or could not be written.
abbrev pub KeepsOtherFiles : TopCall → Type 0
KeepsOtherFiles call = KeepsFiles call.files ⊎ RecordedRun call ⊎ ((call.cause ≡ WriteFault) × UnrecordedRun call)

-- Where no file is to get a journal, the files are as they were.
abbrev pub KeepsUnnamed : TopCall → Type 0
KeepsUnnamed call = (asked : Asked) → IsOrder asked call.words → recording_of asked ≡ None → KeepsFiles call.files

-- The journal of a run that ended, or came to a limit, stands in the file that is to get it.
abbrev pub RecordsJournal : TopCall → Type 0
RecordsJournal call = (asked : Asked) (name : Word) → IsOrder asked call.words → recording_of asked ≡ Some name → IsKept call.cause
    → Records name call.journal call.files

-- a write of a file failed in the call
abbrev pub HasFailedToWrite : TopCall → Type 0
HasFailedToWrite call = call.files.before.writes.count < call.files.after.writes.count

-- A fault of `err` that was counted, or of the file of a journal, shows in the cause as a write fault, unless memory ran out.
abbrev pub ShowsWriteFaults : TopCall → Type 0
ShowsWriteFaults call = HasFailed call.err ⊎ HasFailedToWrite call → call.cause ≡ WriteFault ⊎ call.cause ≡ OutOfMemory

-- the code of a process was found wrong
abbrev pub IsFoundWrong : Cause → Type 0
IsFoundWrong cause = (process : ℕ) × (cause ≡ Wrong process)

-- So does one of the output, unless the code of a process was found wrong.
abbrev pub ShowsOutputFaults : TopCall → Type 0
ShowsOutputFaults call = HasFailed call.out → call.cause ≡ WriteFault ⊎ call.cause ≡ OutOfMemory ⊎ IsFoundWrong call.cause

-- One of a read shows as a read fault, unless what was told of it failed or memory ran out.
abbrev pub ShowsReadFaults : TopCall → Type 0
ShowsReadFaults call = call.files.before.reads.count < call.files.after.reads.count
    → call.cause ≡ ReadFault ⊎ ((call.cause ≡ WriteFault) × HasFailed call.err) ⊎ call.cause ≡ OutOfMemory

-- the report of a panic of this process, with which a module stopped that was run or replayed
pub record IsReportOf (call : TopCall) (process : ℕ) (report : List ℕ) : Type 0 where
  pub ran : RunsModule call (Panicked process)
  pub reports : IsReport ran.code (limits_of ran.asked) call.journal process report

-- what is told of a cause: of a read fault, with the name of the file that was to be read; of a panic, its report
pub record IsTextOf (call : TopCall) (cause : Cause) (text : List ℕ) : Type 0 where
  pub name : Word
  pub named : cause ≡ ReadFault → IsToRead call name
  pub report : List ℕ
  pub reported : (process : ℕ) → cause ≡ Panicked process → IsReportOf call process report
  pub written : text ≡ cause_text cause name report

-- the cause that the call had before a write fault, or want of memory, took its place, and what would be told of it
pub record IsReplaced (call : TopCall) (text : List ℕ) : Type 0 where
  pub by : call.cause ≡ WriteFault ⊎ call.cause ≡ OutOfMemory
  pub cause : Cause
  pub means : Means cause call
  pub told : IsTextOf call cause text

-- `err` got a front of the text, behind nothing, or behind what was told of a cause that was replaced: all of it, or a part
-- where `err` failed
pub record TellsBehind (call : TopCall) (text : List ℕ) : Type 0 where
  pub part : List ℕ
  pub replaced : part ≡ [] ⊎ ((whole : List ℕ) × IsReplaced call whole × (part ≡ whole ⊎ (IsCutFront part whole × HasFailed call.err)))
  pub front : List ℕ
  pub is-front : front ≡ text ⊎ (IsFront front text × HasFailed call.err)
  pub contents : call.err.after.contents ≡ appended call.err.before.contents (part ++ front)

-- The cause is told: `err` got the text of the cause, or failed within it.
abbrev pub TellsCause : TopCall → Type 0
TellsCause call = (text : List ℕ) × IsTextOf call call.cause text × TellsBehind call text

-- The order of messages, in whatever replay the journal has: what one process handled of another begins what that one sent to
-- it, in the order in which it sent them, and their numbers rise, so that each is handled once.
abbrev pub OrdersMessages : TopCall → Type 0
OrdersMessages call = (code : Code) (limits : List ℕ) (world : World) (events : List Event) → AreEvents code limits call.journal world events
    → (sender receiver : ℕ) → Begins (messages_handled sender receiver events) (messages_sent code sender receiver events)
    × Rise 0 (messages_sent code sender receiver events) (sent_to (numbered world.shared.mail receiver))

-- What each call promises, for all words, all bytes and all ways in which devices fail.
pub record IsPromised (call : TopCall) : Type 0 where
  pub refused_module : RefusesModule call
  pub judged : JudgesModule call
  pub print : WritesPrint call
  pub same_module : KeepsModule call
  pub listing : WritesListing call
  pub made : WritesModule call
  pub usage : RefusesWords call
  pub cause : MeansCause call
  pub files : KeepsOtherFiles call
  pub unnamed : KeepsUnnamed call
  pub journal : RecordsJournal call
  pub write_faults : ShowsWriteFaults call
  pub output_faults : ShowsOutputFaults call
  pub read_faults : ShowsReadFaults call
  pub told : TellsCause call
  pub order : OrdersMessages call
