-- What `err` got of the cause of a call.
use Rattle.std.proofs.Common.{◌≡◌, ℕ, ◌<◌, ◌⊎◌, inl, inr, List, [], Some, take, refl, sym, ap, subst, ◌∙◌}
use Rattle.ink_devices.specs.Outside.{greatest_count, appended}
use Rattle.ink_devices.proofs.Appended.{appended-appended}
use Rattle.ink_words.specs.Commands.{Word, Asked, IsOrder}
use Rattle.ink_code.specs.Listing.{listing_text}
use Rattle.ink_causes.specs.Causes.{cause_text}
use Rattle.ink_causes.specs.Devices.{Change, SinkState, Gets, Cuts}
use Rattle.ink_causes.specs.Telling.{TriesLine, TellsMade, Tells}
use Rattle.ink_causes.specs.declared.cause.Cause.{Cause}
use Rattle.ink_causes.specs.declared.cause.Cause.TheVariants.{Quiet, Accepted, Written, Usage, ReadFault, WriteFault, OutOfMemory, Waiting, Panicked, EventLimit, LocalLimit, RoundLimit}
use Rattle.ink_causes.proofs.Sinks.{appended-nothing, tries_once}
use Rattle.ink_commands.specs.Orders.{Came, Did, FromFile, file_of}
use Rattle.ink_commands.specs.Runs.{StopsRun, StopsReplay}
use Rattle.ink_commands.specs.Sources.{CheckedSource, HasNoCode, IsNoJournal, PrintedSource, MadeModule, WritesText}
use Rattle.ink_top.specs.Headline.{TopCall, HasModule, IsToRead, IsTextOf, IsReplaced, TellsBehind, TellsCause}
use Rattle.ink_top.specs.Keeping.{IsKept}
use Rattle.ink_top.proofs.Ending.{Went, deed, change, plain, recorded, unmade, unwritten, ends, told_as, kept_same, memory_unkept, write_unkept}
use Rattle.ink_top.proofs.Meanings.{found_means, has_source, has_module}
use Rattle.ink_top.proofs.Reported.{found_reports}

-- the file that was to be read, where it wasn't

at_read : (P : Cause → Type 0) (cause : Cause) → cause ≡ ReadFault → P cause → P ReadFault
at_read P cause is holds = subst P is holds

from_to_read : (call : TopCall) (went : Went call) (asked : Asked) (file : Word) (most : ℕ) (Came : List ℕ → Type 0) → IsOrder asked call.words → file_of asked ≡ Some file
    → ((bytes : List ℕ) → Came bytes → ⊥) → FromFile file most Came (deed call went) → IsToRead call went.name
from_to_read call went asked file most Came order named never from = elim from [
  | inl it ↦ absurd (never it.0 it.2)
  | inr it ↦ inl (asked, order, named ∙ ap Some (sym it.0))
]

order_to_read : (call : TopCall) (went : Went call) (asked : Asked) → IsOrder asked call.words → went.found ≡ ReadFault → Did asked (deed call went)
    → IsToRead call went.name
order_to_read call went (Asked.Runs file limits rounds recording) order read did =
    from_to_read call went (Asked.Runs file limits rounds recording) file _ _ order refl (λ bytes came. elim came.0 [
      | inl none ↦ at_read (λ c. HasNoCode limits c bytes) went.found read none.0
      | inr some ↦ at_read StopsRun went.found read some.2.stops
    ]) did
order_to_read call went (Asked.Checks file limits) order read did =
    from_to_read call went (Asked.Checks file limits) file _ _ order refl (λ bytes came. at_read (λ c. CheckedSource limits c bytes) went.found read came.0) did
order_to_read call went (Asked.Lists file limits) order read did =
    from_to_read call went (Asked.Lists file limits) file _ _ order refl (λ bytes came. elim came.0 [
      | inl none ↦ at_read (λ c. HasNoCode limits c bytes) went.found read none.0
      | inr some ↦ at_read (λ c. WritesText (listing_text some.0) c call.out) went.found read some.2
    ]) did
order_to_read call went (Asked.Prints file limits) order read did =
    from_to_read call went (Asked.Prints file limits) file _ _ order refl (λ bytes came.
    let here : PrintedSource limits ReadFault bytes call.out = at_read (λ c. PrintedSource limits c bytes call.out) went.found read came.0 in here.2) did
order_to_read call went (Asked.Replays file journal limits) order read did = elim did [
  | inl it ↦ elim it.2 [
    | inl none ↦ absurd (at_read (λ c. HasNoCode limits c it.0) went.found read none.0)
    | inr some ↦ elim some.2 [
      | inl own ↦ elim own.2.1 [
        | inl none ↦ absurd (at_read (λ c. IsNoJournal limits c own.0) went.found read none.0)
        | inr ran ↦ absurd (at_read StopsReplay went.found read ran.2.stops)
      ]
      | inr own ↦
          let asked : Asked = Asked.Replays file journal limits in
          let has : HasModule call asked = has_module call asked it.0 (has_source call asked file it.0 order refl it.1) some.1.0.is in
          let N : Word → Type 0 = λ n. IsToRead call n in subst N (sym own.0) (inr (file, limits, has))
    ]
  ]
  | inr it ↦ (let N : Word → Type 0 = λ n. IsToRead call n in subst N (sym it.0) (inl (Asked.Replays file journal limits, order, refl)))
]
order_to_read call went (Asked.Makes number) order read did =
    absurd (at_read (λ c. MadeModule number c call.out) went.found read did.0)

usage_or_read : (cause : Cause) (number : ℕ) → cause ≡ Usage number → cause ≡ ReadFault → ⊥
usage_or_read cause number usage read = cc

to_read : (call : TopCall) (went : Went call) → went.found ≡ ReadFault → IsToRead call went.name
to_read call went read = elim went.performed [
  | inl usage ↦ absurd (usage_or_read went.found usage.0 usage.1 read)
  | inr ran ↦ order_to_read call went ran.0 ran.1 read ran.3
]

-- a cause that takes no other's place was found so

told_found : (call : TopCall) (went : Went call) (held : Cause) → (held ≡ WriteFault → ⊥) → (held ≡ OutOfMemory → ⊥) → went.told ≡ held → went.found ≡ held
told_found call went held write memory is = elim (told_as went.found went.told went.name went.report (change call.err.before went.err) went.tells) [
  | inl same ↦ sym same ∙ is
  | inr place ↦ elim place.1 [ inl out ↦ absurd (memory (sym is ∙ out)) | inr cut ↦ absurd (write (sym is ∙ cut.0)) ]
]

found_as : (call : TopCall) (went : Went call) (held : Cause) → (held ≡ WriteFault → ⊥) → (held ≡ OutOfMemory → ⊥) → call.cause ≡ held → went.found ≡ held
found_as call went held write memory is = elim (ends call went) [
  | plain why nothing ↦ told_found call went held write memory (sym nothing.same ∙ is)
  | recorded name asks same kept records reads err ↦ told_found call went held write memory (sym same ∙ is)
  | unmade name kept by files tries ↦ absurd (memory (sym is ∙ by))
  | unwritten name asks kept by fails reads tries ↦ absurd (write (sym is ∙ by))
]

-- the text of the cause that was found, and of that of the call

found_text : (call : TopCall) (went : Went call) → IsTextOf call went.found (cause_text went.found went.name went.report)
found_text call went = record {
  name = went.name;
  named = to_read call went;
  report = went.report;
  reported = found_reports call went;
  written = refl;
}

text_of : (call : TopCall) (went : Went call) → IsTextOf call call.cause (cause_text call.cause went.name went.report)
text_of call went = record {
  name = went.name;
  named = λ read. to_read call went (found_as call went ReadFault (λ e. cc) (λ e. cc) read);
  report = went.report;
  reported = λ process is. found_reports call went process (found_as call went (Panicked process) (λ e. cc) (λ e. cc) is);
  written = refl;
}

-- `err` up to where the cause was told, and where that is all

-- `err` got a text, or a front of it where it failed, behind nothing
abbrev Alone : Change SinkState → List ℕ → Type 0
Alone err text = Gets err text ⊎ Cuts err text

-- `err` got this of the cause that was told, behind nothing or behind a part of the text of the one that was found
abbrev Tells2 : Cause → Cause → Word → List ℕ → Change SinkState → Type 0
Tells2 cause told name report err =
    Alone err (cause_text told name report) ⊎ (TellsMade cause told name report err)

tells_both : (cause told : Cause) (name report : List ℕ) (err : Change SinkState) → Tells cause told name report err → Tells2 cause told name report err
tells_both Quiet told name report err tells = inl (subst (λ (c : Cause). Alone err (cause_text c name report)) (sym tells.0)
    (inl (record { contents = ap (λ (s : SinkState). s.contents) tells.1 ∙ appended-nothing err.before.contents; faults = ap (λ (s : SinkState). s.faults) tells.1 })))
tells_both Accepted told name report err tells = inl (subst (λ (c : Cause). Alone err (cause_text c name report)) (sym tells.0)
    (inl (record { contents = ap (λ (s : SinkState). s.contents) tells.1 ∙ appended-nothing err.before.contents; faults = ap (λ (s : SinkState). s.faults) tells.1 })))
tells_both Written told name report err tells = inl (subst (λ (c : Cause). Alone err (cause_text c name report)) (sym tells.0)
    (inl (record { contents = ap (λ (s : SinkState). s.contents) tells.1 ∙ appended-nothing err.before.contents; faults = ap (λ (s : SinkState). s.faults) tells.1 })))
tells_both WriteFault told name report err tells = inl (subst (λ (c : Cause). Alone err (cause_text c name report)) (sym tells.0) tells.1)
tells_both OutOfMemory told name report err tells = inl (subst (λ (c : Cause). Alone err (cause_text c name report)) (sym tells.0) tells.1)
tells_both cause told name report err tells = inr tells

alone : (call : TopCall) (text : List ℕ) → Alone call.err text → TellsBehind call text
alone call text it = elim it [
  | inl whole ↦ record { part = []; replaced = inl refl; front = text; is-front = inl refl; contents = whole.contents }
  | inr cuts ↦ record {
    part = [];
    replaced = inl refl;
    front = take cuts.part.0 text;
    is-front = inr ((cuts.part.0, refl), cuts.failed);
    contents = cuts.part.2;
  }
]

-- where no journal was kept, what was told is what `err` got
told_alone : (call : TopCall) (went : Went call) → call.cause ≡ went.told → call.err.after ≡ went.err
    → TellsBehind call (cause_text call.cause went.name went.report)
told_alone call went same err =
    let T : Cause → Type 0 = λ c. TellsBehind call (cause_text c went.name went.report) in
    let here : Tells went.found went.told went.name went.report call.err =
    subst (λ (e : SinkState). Tells went.found went.told went.name went.report (change call.err.before e)) (sym err) went.tells in
    elim (tells_both went.found went.told went.name went.report call.err here) [
      | inl it ↦ subst T (sym same) (alone call (cause_text went.told went.name went.report) it)
      | inr it ↦ elim it [
        | inl told ↦ subst T (sym (same ∙ told.0)) (alone call (cause_text went.found went.name went.report) (inl told.1))
        | inr other ↦ elim other [
          | inl memory ↦ subst T (sym (same ∙ memory.0)) (alone call (cause_text OutOfMemory went.name went.report) memory.1)
          | inr write ↦ subst T (sym (same ∙ write.0)) (record {
            part = write.1.part;
            replaced = inr (
              cause_text went.found went.name went.report,
              record { by = inl (same ∙ write.0); cause = went.found; means = found_means call went; told = found_text call went },
              inr (write.1.is-part, write.1.failed),
            );
            front = write.1.front;
            is-front = inr (write.1.is-front, write.1.failed);
            contents = write.1.contents;
          })
        ]
      ]
    ]

-- a cause after which the journal is kept was told whole

made_whole : (cause told : Cause) (name report : List ℕ) (err : Change SinkState) → IsKept told → TellsMade cause told name report err
    → Gets err (cause_text cause name report)
made_whole cause told name report err kept tells = elim tells [
  | inl same ↦ same.1
  | inr other ↦ elim other [ inl memory ↦ absurd (memory_unkept told memory.0 kept) | inr write ↦ absurd (write_unkept told write.0 kept) ]
]

whole_of : (cause told : Cause) (name report : List ℕ) (err : Change SinkState) → IsKept cause → told ≡ cause → Tells cause told name report err
    → Gets err (cause_text cause name report)
whole_of Quiet told name report err kept same tells =
    record { contents = ap (λ (s : SinkState). s.contents) tells.1 ∙ appended-nothing err.before.contents; faults = ap (λ (s : SinkState). s.faults) tells.1 }
whole_of (Waiting process) told name report err kept same tells = made_whole (Waiting process) told name report err (subst IsKept (sym same) kept) tells
whole_of (Panicked process) told name report err kept same tells = made_whole (Panicked process) told name report err (subst IsKept (sym same) kept) tells
whole_of (EventLimit process) told name report err kept same tells = made_whole (EventLimit process) told name report err (subst IsKept (sym same) kept) tells
whole_of (LocalLimit process steps) told name report err kept same tells =
    made_whole (LocalLimit process steps) told name report err (subst IsKept (sym same) kept) tells
whole_of (RoundLimit rounds) told name report err kept same tells = made_whole (RoundLimit rounds) told name report err (subst IsKept (sym same) kept) tells
whole_of cause told name report err kept same tells = absurd kept

kept_told : (call : TopCall) (went : Went call) → IsKept went.told → Gets (change call.err.before went.err) (cause_text went.found went.name went.report)
kept_told call went kept =
    let E : Change SinkState = change call.err.before went.err in
    let same : went.told ≡ went.found = kept_same call went kept in
    whole_of went.found went.told went.name went.report E (subst IsKept same kept) same went.tells

-- behind it stands the line of what took its place
behind_told : (call : TopCall) (went : Went call) (line : List ℕ) → IsKept went.told → call.cause ≡ WriteFault ⊎ call.cause ≡ OutOfMemory
    → TriesLine line (change went.err call.err.after) → TellsBehind call line
behind_told call went line kept by tries =
    let told : Gets (change call.err.before went.err) (cause_text went.found went.name went.report) = kept_told call went kept in
    let room : went.err.faults < greatest_count = subst (λ (n : ℕ). n < greatest_count) (sym told.faults) went.room in
    let text : List ℕ = cause_text went.found went.name went.report in
    let before : IsReplaced call text = record { by = by; cause = went.found; means = found_means call went; told = found_text call went } in
    elim (tries_once line (change went.err call.err.after) room tries) [
      | inl whole ↦ record {
        part = text;
        replaced = inr (text, before, inl refl);
        front = line;
        is-front = inl refl;
        contents = whole.contents ∙ ap (λ s. appended s line) told.contents ∙ appended-appended call.err.before.contents text line;
      }
      | inr cuts ↦ record {
        part = text;
        replaced = inr (text, before, inl refl);
        front = take cuts.part.0 line;
        is-front = inr ((cuts.part.0, refl), subst (λ (n : ℕ). n < call.err.after.faults) told.faults cuts.failed);
        contents = cuts.part.2 ∙ ap (λ s. appended s (take cuts.part.0 line)) told.contents ∙ appended-appended call.err.before.contents text (take cuts.part.0 line);
      }
    ]

pub tells_cause : (call : TopCall) → Went call → TellsCause call
tells_cause call went = (
  cause_text call.cause went.name went.report,
  text_of call went,
  elim (ends call went) [
    | plain why nothing ↦ told_alone call went nothing.same nothing.quiet
    | recorded name asks same kept records reads err ↦ told_alone call went same err
    | unmade name kept is files tries ↦
        let T : Cause → Type 0 = λ c. TellsBehind call (cause_text c went.name went.report) in
        subst T (sym is) (behind_told call went (cause_text OutOfMemory went.name went.report) kept (inr is) tries)
    | unwritten name asks kept is fails reads tries ↦
        let T : Cause → Type 0 = λ c. TellsBehind call (cause_text c went.name went.report) in
        subst T (sym is) (behind_told call went (cause_text WriteFault went.name went.report) kept (inl is) tries)
  ],
)
