-- The report that is told of a panic is that of the module which was run or replayed.
use Rattle.std.proofs.Common.{◌≡◌, ℕ, inl, inr, List, Option, refl, sym, subst, ◌∙◌}
use Rattle.ink_devices.specs.Outside.{Reads}
use Rattle.ink_words.specs.Commands.{Word, Asked, IsOrder}
use Rattle.ink_code.specs.Listing.{listing_text}
use Rattle.ink_causes.specs.Devices.{Change, FilesState}
use Rattle.ink_causes.specs.declared.cause.Cause.{Cause}
use Rattle.ink_causes.specs.declared.cause.Cause.TheVariants.{Panicked, ReadFault, Usage, OutOfMemory}
use Rattle.ink_commands.specs.Orders.{Came, Did, FromFile, RanSource, ReplayedSource}
use Rattle.ink_commands.specs.Reports.{Reports}
use Rattle.ink_commands.specs.Runs.{RanCode, ReplayedCode}
use Rattle.ink_commands.specs.Sources.{CheckedSource, HasNoCode, IsNoJournal, IsUnread, MadeModule, PrintedSource, WritesText}
use Rattle.ink_top.specs.Headline.{TopCall, HasSource, IsReportOf}
use Rattle.ink_top.proofs.Ending.{Went, deed}
use Rattle.ink_top.proofs.Meanings.{has_source, has_module}

at_panic : (P : Cause → Type 0) (cause : Cause) (process : ℕ) → cause ≡ Panicked process → P cause → P (Panicked process)
at_panic P cause process is holds = subst P is holds

unread_or_panic : (cause : Cause) (process : ℕ) (file : Word) (files : Change FilesState) → cause ≡ Panicked process → IsUnread cause file files → ⊥
unread_or_panic cause process file files is unread = elim unread [
  | inl read ↦ (let both : ReadFault ≡ Panicked process = sym read.0 ∙ is in cc)
  | inr memory ↦ (let both : OutOfMemory ≡ Panicked process = sym memory.0 ∙ is in cc)
]

usage_or_panic : (cause : Cause) (number process : ℕ) → cause ≡ Usage number → cause ≡ Panicked process → ⊥
usage_or_panic cause number process usage is = let both : Usage number ≡ Panicked process = sym usage ∙ is in cc

module _ (call : TopCall) (went : Went call) (process : ℕ) (is : went.found ≡ Panicked process) where
  abbrev Told : Type 0
  Told = IsReportOf call process went.report

  from_reports : (file : Word) (most : ℕ) (Came : List ℕ → Type 0) → ((bytes : List ℕ) → Reads call.files.before.held file most bytes → Came bytes → Told)
      → FromFile file most Came (deed call went) → Told
  from_reports file most Came came from = elim from [
    | inl it ↦ came it.0 it.1 it.2
    | inr it ↦ absurd (unread_or_panic went.found process file (deed call went).files is it.2)
  ]

  no_code : {A : Type 0} (limits bytes : List ℕ) → HasNoCode limits went.found bytes → A
  no_code {A} limits bytes none = absurd (at_panic (λ c. HasNoCode limits c bytes) went.found process is none)

  run_reports : (file : Word) (limits : List ℕ) (rounds : Option ℕ) (recording : Option Word) (bytes : List ℕ)
      → HasSource call (Asked.Runs file limits rounds recording) bytes → RanSource limits rounds (deed call went) bytes → Told
  run_reports file limits rounds recording bytes has ran = elim ran [
    | inl none ↦ no_code limits bytes none.0
    | inr some ↦ record {
      ran = record {
        asked = Asked.Runs file limits rounds recording;
        accepted = has_module call (Asked.Runs file limits rounds recording) bytes has some.1.0.is;
        code = some.0;
        within = some.1.1;
        came = at_panic (λ c. RanCode some.0 limits rounds c call.journal call.out) went.found process is some.2;
      };
      reports = at_panic (λ c. Reports c some.0 limits call.journal went.report) went.found process is some.3;
    }
  ]

  replay_reports : (file journal : Word) (limits bytes : List ℕ) → HasSource call (Asked.Replays file journal limits) bytes
      → ReplayedSource limits journal (deed call went) bytes → Told
  replay_reports file journal limits bytes has replayed = elim replayed [
    | inl none ↦ no_code limits bytes none.0
    | inr some ↦ from_reports journal _ _ (λ own reads came. elim came.1 [
      | inl none ↦ absurd (at_panic (λ c. IsNoJournal limits c own) went.found process is none.0)
      | inr done ↦ record {
        ran = record {
          asked = Asked.Replays file journal limits;
          accepted = has_module call (Asked.Replays file journal limits) bytes has some.1.0.is;
          code = some.0;
          within = some.1.1;
          came = (
            done.0,
            record { bytes = own; read = reads; is-file = done.1 },
            at_panic (λ c. ReplayedCode some.0 limits done.0 c call.journal call.out) went.found process is done.2,
          );
        };
        reports = at_panic (λ c. Reports c some.0 limits call.journal went.report) went.found process is done.3;
      }
    ]) some.2
  ]

  order_reports : (asked : Asked) → IsOrder asked call.words → Did asked (deed call went) → Told
  order_reports (Asked.Runs file limits rounds recording) order did =
      from_reports file _ _ (λ bytes reads came.
      run_reports file limits rounds recording bytes (has_source call (Asked.Runs file limits rounds recording) file bytes order refl reads) came.0) did
  order_reports (Asked.Checks file limits) order did =
      from_reports file _ _ (λ bytes reads came. absurd (at_panic (λ c. CheckedSource limits c bytes) went.found process is came.0)) did
  order_reports (Asked.Lists file limits) order did =
      from_reports file _ _ (λ bytes reads came. elim came.0 [
        | inl none ↦ no_code limits bytes none.0
        | inr some ↦ absurd (at_panic (λ c. WritesText (listing_text some.0) c call.out) went.found process is some.2)
      ]) did
  order_reports (Asked.Prints file limits) order did =
      from_reports file _ _ (λ bytes reads came.
      let here : PrintedSource limits (Panicked process) bytes call.out = at_panic (λ c. PrintedSource limits c bytes call.out) went.found process is came.0 in absurd here.2) did
  order_reports (Asked.Replays file journal limits) order did =
      from_reports file _ _ (λ bytes reads came.
      replay_reports file journal limits bytes (has_source call (Asked.Replays file journal limits) file bytes order refl reads) came) did
  order_reports (Asked.Makes number) order did = absurd (at_panic (λ c. MadeModule number c call.out) went.found process is did.0)

pub found_reports : (call : TopCall) (went : Went call) (process : ℕ) → went.found ≡ Panicked process → IsReportOf call process went.report
found_reports call went process is = elim went.performed [
  | inl usage ↦ absurd (usage_or_panic went.found usage.0 process usage.1 is)
  | inr ran ↦ order_reports call went process is ran.0 ran.1 ran.3
]
