-- What came of the words, how that was told, and what became of the journal's file.
use Rattle.std.proofs.Common.{◌≡◌, ℕ, ◌<◌, ◌⊎◌, inl, inr, List, Option, None, Some, refl, sym, subst, ◌∙◌}
use Rattle.std.specs.Prelude.{⊤}
use Rattle.ink_devices.specs.Outside.{greatest_count}
use Rattle.ink_words.specs.Commands.{Word, Asked, IsOrder, recording_of}
use Rattle.ink_causes.specs.Causes.{cause_text, IsFault}
use Rattle.ink_causes.specs.Devices.{Change, FilesState, SinkState, KeepsFiles, HasFailed}
use Rattle.ink_causes.specs.Telling.{TriesLine, Tells, TellsMade}
use Rattle.ink_causes.specs.declared.cause.Cause.{Cause}
use Rattle.ink_causes.specs.declared.cause.Cause.TheVariants.{Quiet, Accepted, Written, ReadFault, WriteFault, OutOfMemory}
use Rattle.ink_commands.specs.Orders.{Deed}
use Rattle.ink_commands.specs.Sources.{IsIdle}
use Rattle.ink_top.specs.Calls.{Performed}
use Rattle.ink_top.specs.Headline.{TopCall, IsUntouched}
use Rattle.ink_top.specs.Keeping.{IsKept, Records, FailsToRecord, KeepsNothing, Keeps}

-- something from one state to another
abbrev pub change : {State : Type 0} → State → State → Change State
change before after = record { before = before; after = after }

-- What came of the words, by the cause; how that was told; and what became of the journal's file.
pub record Went (call : TopCall) : Type 0 where
  pub found : Cause
  pub name : Word
  pub report : List ℕ
  pub recording : Option Word
  pub told : Cause
  pub files : FilesState
  pub err : SinkState
  pub room : call.err.before.faults < greatest_count
  pub performed : Performed call.words (record {
    cause = found;
    name = name;
    files = change call.files.before files;
    journal = call.journal;
    report = report;
    out = call.out;
  })
  pub asks : (asked : Asked) → IsOrder asked call.words → recording ≡ recording_of asked
  pub read : KeepsFiles (change call.files.before files)
  pub tells : Tells found told name report (change call.err.before err)
  pub keeps : Keeps told call.cause recording call.journal (change files call.files.after) (change err call.err.after)

-- what was done before it was told
abbrev pub deed : (call : TopCall) → Went call → Deed
deed call went = record {
  cause = went.found;
  name = went.name;
  files = change call.files.before went.files;
  journal = call.journal;
  report = went.report;
  out = call.out;
}

-- a cause whose text takes memory
abbrev pub IsMade : Cause → Type 0
IsMade Quiet = ⊥
IsMade Accepted = ⊥
IsMade Written = ⊥
IsMade WriteFault = ⊥
IsMade OutOfMemory = ⊥
IsMade cause = ⊤

-- what takes the place of such a cause
abbrev pub TakesPlace : Cause → Change SinkState → Type 0
TakesPlace told err = (told ≡ OutOfMemory) ⊎ ((told ≡ WriteFault) × HasFailed err)

made_told : (cause told : Cause) (name report : List ℕ) (err : Change SinkState) → IsMade cause → TellsMade cause told name report err
    → told ≡ cause ⊎ (IsMade cause × TakesPlace told err)
made_told cause told name report err made tells = elim tells [
  | inl same ↦ inl same.0
  | inr other ↦ elim other [
    | inl memory ↦ inr (made, inl memory.0)
    | inr write ↦ inr (made, inr (write.0, write.1.failed))
  ]
]

-- a cause that is told stays, or its text takes memory
pub told_as : (cause told : Cause) (name report : List ℕ) (err : Change SinkState) → Tells cause told name report err
    → told ≡ cause ⊎ (IsMade cause × TakesPlace told err)
told_as Quiet told name report err tells = inl tells.0
told_as Accepted told name report err tells = inl tells.0
told_as Written told name report err tells = inl tells.0
told_as WriteFault told name report err tells = inl tells.0
told_as OutOfMemory told name report err tells = inl tells.0
told_as cause told name report err tells = made_told cause told name report err tt tells

place_is_fault : (told : Cause) (err : Change SinkState) → TakesPlace told err → IsFault told
place_is_fault told err place = elim place [ inl memory ↦ inr (inr memory) | inr write ↦ inr (inl write.0) ]

pub memory_unkept : (cause : Cause) → cause ≡ OutOfMemory → IsKept cause → ⊥
memory_unkept cause is kept = let here : IsKept OutOfMemory = subst IsKept is kept in here

pub write_unkept : (cause : Cause) → cause ≡ WriteFault → IsKept cause → ⊥
write_unkept cause is kept = let here : IsKept WriteFault = subst IsKept is kept in here

read_unkept : (cause : Cause) → cause ≡ ReadFault → IsKept cause → ⊥
read_unkept cause is kept = let here : IsKept ReadFault = subst IsKept is kept in here

pub fault_unkept : (cause : Cause) → IsFault cause → IsKept cause → ⊥
fault_unkept cause fault kept = elim fault [
  | inl read ↦ read_unkept cause read kept
  | inr other ↦ elim other [ inl write ↦ write_unkept cause write kept | inr memory ↦ memory_unkept cause memory kept ]
]

place_unkept : (told : Cause) (err : Change SinkState) → TakesPlace told err → IsKept told → ⊥
place_unkept told err place = fault_unkept told (place_is_fault told err place)

-- How a call ended behind what was found: as it was told and no file was written; the journal went to its file; or there was
-- no memory for that, or it failed.
pub data Ends (call : TopCall) (went : Went call) : Type 0 where
  plain : (IsKept went.told → went.recording ≡ None) → KeepsNothing went.told call.cause (change went.files call.files.after) (change went.err call.err.after) → Ends call went
  recorded : (name : Word) → went.recording ≡ Some name → call.cause ≡ went.told → IsKept went.told → Records name call.journal (change went.files call.files.after) → call.files.after.reads ≡ went.files.reads → call.err.after ≡ went.err → Ends call went
  unmade : (name : Word) → IsKept went.told → call.cause ≡ OutOfMemory → call.files.after ≡ went.files → TriesLine (cause_text OutOfMemory name name) (change went.err call.err.after) → Ends call went
  unwritten : (name : Word) → went.recording ≡ Some name → IsKept went.told → call.cause ≡ WriteFault → FailsToRecord name (change went.files call.files.after) → call.files.after.reads ≡ went.files.reads → TriesLine (cause_text WriteFault name name) (change went.err call.err.after) → Ends call went

ends_by : (call : TopCall) (went : Went call) (recording : Option Word) → went.recording ≡ recording
    → Keeps went.told call.cause recording call.journal (change went.files call.files.after) (change went.err call.err.after) → Ends call went
ends_by call went None is keeps = plain (λ kept. is) keeps
ends_by call went (Some name) is keeps = elim keeps [
  | inl it ↦ elim it.1 [
    | inl done ↦ recorded name is done.0 it.0 done.1 done.2 done.3
    | inr other ↦ elim other [
      | inl memory ↦ unmade name it.0 memory.0 memory.1 memory.2
      | inr write ↦ unwritten name is it.0 write.0 write.1 write.2 write.3
    ]
  ]
  | inr it ↦ plain (λ kept. absurd (it.0 kept)) it.1
]

pub ends : (call : TopCall) (went : Went call) → Ends call went
ends call went = ends_by call went went.recording refl went.keeps

-- what was found stays, or a fault takes its place
final_as : (call : TopCall) (went : Went call) → call.cause ≡ went.told ⊎ IsFault call.cause
final_as call went = elim (ends call went) [
  | plain why nothing ↦ inl nothing.same
  | recorded name asks same kept records reads err ↦ inl same
  | unmade name kept is files tries ↦ inr (inr (inr is))
  | unwritten name asks kept is fails reads tries ↦ inr (inr (inl is))
]

-- what holds of the cause that was found, and of each fault, holds of the cause of the call
pub final : (call : TopCall) (went : Went call) (P : Cause → Type 0) → ((cause : Cause) → IsFault cause → P cause) → P went.found → P call.cause
final call went P faults found = elim (final_as call went) [
  | inl same ↦ elim (told_as went.found went.told went.name went.report (change call.err.before went.err) went.tells) [
    | inl is ↦ subst P (sym (same ∙ is)) found
    | inr place ↦ subst P (sym same) (faults went.told (place_is_fault went.told (change call.err.before went.err) place.1))
  ]
  | inr fault ↦ faults call.cause fault
]

-- where the journal doesn't go to a file after what was found, nothing goes there
pub unkept : (call : TopCall) (went : Went call) → (IsKept went.found → ⊥)
    → KeepsNothing went.told call.cause (change went.files call.files.after) (change went.err call.err.after)
unkept call went not =
    let told : IsKept went.told → ⊥ = elim (told_as went.found went.told went.name went.report (change call.err.before went.err) went.tells) [
      | inl same ↦ λ kept. not (subst IsKept same kept)
      | inr place ↦ place_unkept went.told (change call.err.before went.err) place.1
    ] in
    elim (ends call went) [
      | plain why nothing ↦ nothing
      | recorded name asks same kept records reads err ↦ absurd (told kept)
      | unmade name kept is files tries ↦ absurd (told kept)
      | unwritten name asks kept is fails reads tries ↦ absurd (told kept)
    ]

-- a cause after which the journal goes to its file was told as it was found
pub kept_same : (call : TopCall) (went : Went call) → IsKept went.told → went.told ≡ went.found
kept_same call went kept = elim (told_as went.found went.told went.name went.report (change call.err.before went.err) went.tells) [
  | inl same ↦ same
  | inr place ↦ absurd (place_unkept went.told (change call.err.before went.err) place.1 kept)
]

pub kept_on : (before middle after : FilesState) → KeepsFiles (change before middle) → after ≡ middle → KeepsFiles (change before after)
kept_on before middle after kept same = subst (λ (f : FilesState). KeepsFiles (change before f)) (sym same) kept

pub untouched : (call : TopCall) (went : Went call) → (IsKept went.found → ⊥) → IsIdle call.journal call.out → IsUntouched call
untouched call went not idle = record {
  no-event = idle.no-event;
  output = idle.output;
  kept = kept_on call.files.before went.files call.files.after went.read (unkept call went not).kept;
}

-- a cause whose text takes no memory, and after which no journal is kept, stays
pub stays : (call : TopCall) (went : Went call) → (IsKept went.found → ⊥) → (IsMade went.found → ⊥) → call.cause ≡ went.found
stays call went not made = elim (told_as went.found went.told went.name went.report (change call.err.before went.err) went.tells) [
  | inl same ↦ (unkept call went not).same ∙ same
  | inr place ↦ absurd (made place.0)
]
