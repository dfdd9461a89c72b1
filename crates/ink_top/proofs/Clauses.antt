-- From what came of the words to what the top call promises of modules, texts and words.
use Rattle.std.proofs.Common.{◌≡◌, ℕ, ◌⊎◌, inl, inr, List, [], Option, None, Some, refl, sym, ap, subst, ◌∙◌}
use Rattle.ink_base.specs.declared.token.Token.{Token}
use Rattle.ink_base.specs.declared.refusal.Refusal.{Refusal}
use Rattle.ink_devices.specs.Outside.{Directory, Reads}
use Rattle.ink_words.specs.Commands.{Word, Asked, IsOrder}
use Rattle.ink_words.proofs.WrongWords.{no_wrong_word, one_wrong_word}
use Rattle.ink_code.specs.Listing.{listing_text}
use Rattle.ink_generator.specs.Generated.{generated}
use Rattle.ink_grammar.specs.Tree.{Tree}
use Rattle.ink_names.specs.Later.{IsLater}
use Rattle.ink_print.specs.Layout.{print}
use Rattle.ink_reading.specs.Reading as reading
use Rattle.ink_round.specs.ReadsBack.{IsPrint}
use Rattle.ink_causes.specs.Causes.{IsFault}
use Rattle.ink_causes.specs.Devices.{Change, FilesState, SinkState, Gets, Cuts}
use Rattle.ink_causes.specs.declared.cause.Cause.{Cause}
use Rattle.ink_causes.specs.declared.cause.Cause.TheVariants.{Accepted, Written, Refused, Usage, WriteFault, OutOfMemory, Unbuilt}
use Rattle.ink_commands.specs.Orders.{Deed, Came, Did, FromFile, file_of, limits_of}
use Rattle.ink_commands.specs.Sources.{most_read, IsUnread, IsIdle, CheckedSource, HasNoCode, PrintedSource, MadeModule, WritesText}
use Rattle.ink_commands.specs.Verdict.{IsFurther, IsOnlyVerdict, IsRefusedBy, Verdict}
use Rattle.ink_commands.specs.Verdict as verdict
use Rattle.ink_top.specs.Headline.{TopCall, IsUntouched, StandUnder, TakesSource, IsRefused, RefusesModule, IsLaterRefused, JudgesModule, WritesPrint, WritesModule, WritesListing, RefusesWords}
use Rattle.ink_top.specs.Keeping.{IsKept}
use Rattle.ink_top.proofs.Ending.{Went, deed, IsMade, final, stays, untouched, fault_unkept}

-- the bytes that were read are the source

some_injective : (A : Type 0) (a b : A) → Some a ≡ Some b → a ≡ b
some_injective A a b e = cc

source_is_read : (directory : Option Directory) (file : Word) (most : ℕ) (bytes read : List ℕ)
    → StandUnder directory file most bytes → Reads directory file most read → read ≡ bytes
source_is_read None file most bytes read stand reads = absurd stand
source_is_read (Some directory) file most bytes read stand reads = some_injective (List ℕ) read bytes (sym reads ∙ stand)

unread_is_fault : (cause : Cause) (file : Word) (files : Change FilesState) → IsUnread cause file files → IsFault cause
unread_is_fault cause file files unread = elim unread [ inl it ↦ inl it.0 | inr it ↦ inr (inr it.0) ]

-- what was done with the source of an order

with_file : (file other : Word) (most : ℕ) (Came : List ℕ → Type 0) (it : Deed) → Some file ≡ Some other → FromFile file most Came it → FromFile other most Came it
with_file file other most Came it same from = subst (λ (f : Word). FromFile f most Came it) (some_injective Word file other same) from

pub did_source : (asked : Asked) (it : Deed) (file : Word) → file_of asked ≡ Some file → Did asked it
    → FromFile file (most_read (limits_of asked)) (Came asked it) it
did_source (Asked.Runs own limits rounds recording) it file named did =
    with_file own file (most_read limits) (Came (Asked.Runs own limits rounds recording) it) it named did
did_source (Asked.Checks own limits) it file named did = with_file own file (most_read limits) (Came (Asked.Checks own limits) it) it named did
did_source (Asked.Lists own limits) it file named did = with_file own file (most_read limits) (Came (Asked.Lists own limits) it) it named did
did_source (Asked.Prints own limits) it file named did = with_file own file (most_read limits) (Came (Asked.Prints own limits) it) it named did
did_source (Asked.Replays own journal limits) it file named did =
    with_file own file (most_read limits) (Came (Asked.Replays own journal limits) it) it named did
did_source (Asked.Makes number) it file named did = let e : None ≡ Some file = named in absurd cc

-- what was done of an order that the words are
did_order : (call : TopCall) (went : Went call) (asked : Asked) → IsOrder asked call.words → Did asked (deed call went)
did_order call went asked order = elim went.performed [
  | inl usage ↦ absurd (no_wrong_word call.words usage.0 (asked, order) usage.2)
  | inr ran ↦ subst (λ (a : Asked). Did a (deed call went)) (sym (ran.2 asked order)) ran.3
]

-- what came of the words is what came of the source, or a fault before it
performed_source : (call : TopCall) (went : Went call) (asked : Asked) (bytes : List ℕ) → TakesSource call asked bytes
    → Came asked (deed call went) bytes ⊎ (IsIdle call.journal call.out × IsFault went.found)
performed_source call went asked bytes takes =
    elim (did_source asked (deed call went) takes.file takes.named (did_order call went asked takes.words)) [
      | inl it ↦ inl (subst (λ (b : List ℕ). Came asked (deed call went) b)
          (source_is_read call.files.before.held takes.file (most_read (limits_of asked)) bytes it.0 takes.stands it.1) it.2)
      | inr it ↦ inr (it.1, unread_is_fault went.found takes.file (deed call went).files it.2)
    ]

-- verdicts that differ

refused_or_further : (refusal : Refusal) → verdict.Refused refusal ≡ verdict.Further → ⊥
refused_or_further refusal e = cc

same_refusal : (one other : Refusal) → verdict.Refused one ≡ verdict.Refused other → one ≡ other
same_refusal one other e = cc

refuses_or_reads : (tokens : List Token) (tree : Tree) (refusal : Refusal) → reading.Refuses refusal ≡ reading.Reads tokens tree → ⊥
refuses_or_reads tokens tree refusal e = cc

same_tree : (tokens others : List Token) (tree other : Tree) → reading.Reads tokens tree ≡ reading.Reads others other → tree ≡ other
same_tree tokens others tree other e = cc

same_told : (one other : Refusal) → reading.Refuses one ≡ reading.Refuses other → one ≡ other
same_told one other e = cc

-- a refused source

-- the verdict is one refusal, and no phase behind the reading judges the source
one_refusal : (limits bytes : List ℕ) (refusal other : Refusal) → verdict.IsRefused limits bytes refusal → IsRefusedBy limits bytes other
    → other ≡ refusal
one_refusal limits bytes refusal other refused by = elim by [
  | inl it ↦ sym (same_refusal refusal other (it.only (verdict.Refused refusal) refused))
  | inr it ↦ absurd (refused_or_further refusal (it.0.only (verdict.Refused refusal) refused))
]

not_further : {A : Type 0} (limits bytes : List ℕ) (refusal : Refusal) → verdict.IsRefused limits bytes refusal → IsOnlyVerdict limits bytes verdict.Further → A
not_further {A} limits bytes refusal refused only = absurd (refused_or_further refusal (only.only (verdict.Refused refusal) refused))

-- the cause is the refusal, or a fault
abbrev Refuses : Refusal → Cause → Type 0
Refuses refusal cause = cause ≡ Refused refusal ⊎ IsFault cause

check_refused : (limits : List ℕ) (cause : Cause) (bytes : List ℕ) (refusal : Refusal) → verdict.IsRefused limits bytes refusal
    → CheckedSource limits cause bytes → Refuses refusal cause
check_refused limits Accepted bytes refusal refused checked = not_further limits bytes refusal refused checked
check_refused limits (Refused other) bytes refusal refused checked = inl (ap Refused (one_refusal limits bytes refusal other refused checked))
check_refused limits OutOfMemory bytes refusal refused checked = inr (inr (inr refl))
check_refused limits cause bytes refusal refused checked = absurd checked

no_code_refused : (limits : List ℕ) (cause : Cause) (bytes : List ℕ) (refusal : Refusal) → verdict.IsRefused limits bytes refusal
    → HasNoCode limits cause bytes → Refuses refusal cause
no_code_refused limits (Refused other) bytes refusal refused none = inl (ap Refused (one_refusal limits bytes refusal other refused none))
no_code_refused limits Unbuilt bytes refusal refused none = not_further limits bytes refusal refused none
no_code_refused limits OutOfMemory bytes refusal refused none = inr (inr (inr refl))
no_code_refused limits cause bytes refusal refused none = absurd none

no_print : (limits bytes : List ℕ) (refusal : Refusal) (text : List ℕ) → reading.ComesTo limits bytes (reading.Refuses refusal)
    → IsPrint limits bytes text → ⊥
no_print limits bytes refusal text refuses prints =
    refuses_or_reads prints.tokens prints.tree refusal (prints.reads.only (reading.Refuses refusal) refuses)

print_refused : (limits : List ℕ) (cause : Cause) (bytes : List ℕ) (refusal : Refusal) (out : Change SinkState)
    → reading.ComesTo limits bytes (reading.Refuses refusal) → PrintedSource limits cause bytes out
    → (out.after ≡ out.before) × Refuses refusal cause
print_refused limits (Refused other) bytes refusal out refused printed =
    (printed.1, inl (ap Refused (sym (same_told refusal other (printed.0.only (reading.Refuses refusal) refused)))))
print_refused limits OutOfMemory bytes refusal out refused printed = (printed, inr (inr (inr refl)))
print_refused limits cause bytes refusal out refused printed = absurd (no_print limits bytes refusal printed.0 refused printed.1)

idle : (journal : List ℕ) (out : Change SinkState) → journal ≡ [] → out.after ≡ out.before → IsIdle journal out
idle journal out none same = record { no-event = none; output = same }

came_refused : (asked : Asked) (it : Deed) (bytes : List ℕ) (refusal : Refusal) → IsRefused asked bytes refusal → Came asked it bytes
    → IsIdle it.journal it.out × Refuses refusal it.cause
came_refused (Asked.Runs file limits rounds recording) it bytes refusal refused came = elim came.0 [
  | inl none ↦ (none.1, no_code_refused limits it.cause bytes refusal refused none.0)
  | inr some ↦ not_further limits bytes refusal refused some.1.0
]
came_refused (Asked.Checks file limits) it bytes refusal refused came = (came.1, check_refused limits it.cause bytes refusal refused came.0)
came_refused (Asked.Lists file limits) it bytes refusal refused came = elim came.0 [
  | inl none ↦ (idle it.journal it.out came.1 none.1, no_code_refused limits it.cause bytes refusal refused none.0)
  | inr some ↦ not_further limits bytes refusal refused some.1.0
]
came_refused (Asked.Prints file limits) it bytes refusal refused came =
    let found = print_refused limits it.cause bytes refusal it.out refused came.0 in (idle it.journal it.out came.1 found.0, found.1)
came_refused (Asked.Replays file journal limits) it bytes refusal refused came = elim came [
  | inl none ↦ (none.1, no_code_refused limits it.cause bytes refusal refused none.0)
  | inr some ↦ not_further limits bytes refusal refused some.1.0
]
came_refused (Asked.Makes number) it bytes refusal refused came = absurd came

refuses_unkept : (refusal : Refusal) (cause : Cause) → Refuses refusal cause → IsKept cause → ⊥
refuses_unkept refusal cause refuses kept = elim refuses [
  | inl is ↦ (let here : IsKept (Refused refusal) = subst IsKept is kept in here)
  | inr fault ↦ fault_unkept cause fault kept
]

pub refused_module : (call : TopCall) → Went call → RefusesModule call
refused_module call went asked bytes refusal takes refused =
    let found : IsIdle call.journal call.out × Refuses refusal went.found =
    elim (performed_source call went asked bytes takes) [
      | inl came ↦ came_refused asked (deed call went) bytes refusal refused came
      | inr it ↦ (it.0, inr it.1)
    ] in (
      untouched call went (refuses_unkept refusal went.found found.1) found.0,
      final call went (Refuses refusal) (λ cause fault. inr fault) found.1,
    )

-- a module that the phases behind the reading judge

-- how the judging of such a module ends: by a refusal, by this cause, or by a fault
abbrev EndsJudging : Cause → Cause → Type 0
EndsJudging held cause = IsLaterRefused cause ⊎ (cause ≡ held) ⊎ IsFault cause

refused_further : (limits bytes : List ℕ) (refusal : Refusal) → IsFurther limits bytes → IsRefusedBy limits bytes refusal → IsLater refusal
refused_further limits bytes refusal further by = elim by [
  | inl it ↦ absurd (refused_or_further refusal (sym (it.only verdict.Further further)))
  | inr it ↦ it.1
]

check_further : (limits : List ℕ) (cause : Cause) (bytes : List ℕ) → IsFurther limits bytes → CheckedSource limits cause bytes
    → EndsJudging Accepted cause
check_further limits Accepted bytes further checked = inr (inl refl)
check_further limits (Refused other) bytes further checked = inl (other, refl, refused_further limits bytes other further checked)
check_further limits OutOfMemory bytes further checked = inr (inr (inr (inr refl)))
check_further limits cause bytes further checked = absurd checked

no_code_further : (limits : List ℕ) (cause : Cause) (bytes : List ℕ) → IsFurther limits bytes → HasNoCode limits cause bytes
    → EndsJudging Unbuilt cause
no_code_further limits (Refused other) bytes further none = inl (other, refl, refused_further limits bytes other further none)
no_code_further limits Unbuilt bytes further none = inr (inl refl)
no_code_further limits OutOfMemory bytes further none = inr (inr (inr (inr refl)))
no_code_further limits cause bytes further none = absurd none

judging_unkept : (held cause : Cause) → (IsKept held → ⊥) → EndsJudging held cause → IsKept cause → ⊥
judging_unkept held cause not ends kept = elim ends [
  | inl later ↦ (let here : IsKept (Refused later.0) = subst IsKept later.1 kept in here)
  | inr other ↦ elim other [ inl is ↦ not (subst IsKept is kept) | inr fault ↦ fault_unkept cause fault kept ]
]

judged : (call : TopCall) (went : Went call) (held : Cause) → (IsKept held → ⊥) → IsIdle call.journal call.out → EndsJudging held went.found
    → IsUntouched call × EndsJudging held call.cause
judged call went held not idle ends = (
  untouched call went (judging_unkept held went.found not ends) idle,
  final call went (EndsJudging held) (λ cause fault. inr (inr fault)) ends,
)

pub judged_module : (call : TopCall) → Went call → JudgesModule call
judged_module call went file limits bytes source further =
    elim (performed_source call went (Asked.Checks file limits) bytes source) [
      | inl came ↦ judged call went Accepted (λ none. none) came.1 (check_further limits went.found bytes further came.0)
      | inr it ↦ judged call went Accepted (λ none. none) it.0 (inr (inr it.1))
    ]

-- a text that is to be written

abbrev Whole : Cause → Change SinkState → List ℕ → Type 0
Whole cause out text = ((cause ≡ Written) × Gets out text) ⊎ ((cause ≡ WriteFault) × Cuts out text) ⊎ (IsFault cause × (out.after ≡ out.before))

written_whole : (text : List ℕ) (cause : Cause) (out : Change SinkState) → WritesText text cause out → Whole cause out text
written_whole text Written out writes = inl (refl, writes)
written_whole text WriteFault out writes = inr (inl (refl, writes))
written_whole text cause out writes = absurd writes

written_unkept : (cause : Cause) → cause ≡ Written → IsKept cause → ⊥
written_unkept cause is kept = let here : IsKept Written = subst IsKept is kept in here

writing_unkept : (cause : Cause) → cause ≡ WriteFault → IsKept cause → ⊥
writing_unkept cause is kept = let here : IsKept WriteFault = subst IsKept is kept in here

written_unmade : (cause : Cause) → cause ≡ Written → IsMade cause → ⊥
written_unmade cause is made = let here : IsMade Written = subst IsMade is made in here

writing_unmade : (cause : Cause) → cause ≡ WriteFault → IsMade cause → ⊥
writing_unmade cause is made = let here : IsMade WriteFault = subst IsMade is made in here

whole_final : (call : TopCall) (went : Went call) (text : List ℕ) → Whole went.found call.out text → Whole call.cause call.out text
whole_final call went text whole = elim whole [
  | inl it ↦ inl (stays call went (written_unkept went.found it.0) (written_unmade went.found it.0) ∙ it.0, it.1)
  | inr other ↦ elim other [
    | inl it ↦ inr (inl (stays call went (writing_unkept went.found it.0) (writing_unmade went.found it.0) ∙ it.0, it.1))
    | inr it ↦ inr (inr (final call went IsFault (λ cause fault. fault) it.0, it.1))
  ]
]

print_is : (limits bytes text : List ℕ) (tokens : List Token) (tree : Tree) → reading.ComesTo limits bytes (reading.Reads tokens tree)
    → IsPrint limits bytes text → text ≡ print bytes tree
print_is limits bytes text tokens tree reads prints =
    prints.print ∙ ap (print bytes) (sym (same_tree tokens prints.tokens tree prints.tree (prints.reads.only (reading.Reads tokens tree) reads)))

print_read : (limits : List ℕ) (cause : Cause) (bytes : List ℕ) (tokens : List Token) (tree : Tree) (out : Change SinkState)
    → reading.ComesTo limits bytes (reading.Reads tokens tree) → PrintedSource limits cause bytes out → Whole cause out (print bytes tree)
print_read limits (Refused other) bytes tokens tree out reads printed =
    absurd (refuses_or_reads tokens tree other (sym (printed.0.only (reading.Reads tokens tree) reads)))
print_read limits OutOfMemory bytes tokens tree out reads printed = inr (inr (inr (inr refl), printed))
print_read limits cause bytes tokens tree out reads printed =
    subst (Whole cause out) (print_is limits bytes printed.0 tokens tree reads printed.1) (written_whole printed.0 cause out printed.2)

pub writes_print : (call : TopCall) → Went call → WritesPrint call
writes_print call went file limits bytes tokens tree source reads =
    elim (performed_source call went (Asked.Prints file limits) bytes source) [
      | inl came ↦ (came.1, whole_final call went (print bytes tree) (print_read limits went.found bytes tokens tree call.out reads came.0))
      | inr it ↦ (it.0.no-event, whole_final call went (print bytes tree) (inr (inr (it.1, it.0.output))))
    ]

made_whole : (number : ℕ) (cause : Cause) (out : Change SinkState) → MadeModule number cause out → Whole cause out (generated number)
made_whole number OutOfMemory out made = inr (inr (inr (inr refl), made))
made_whole number cause out made = written_whole (generated number) cause out made

pub writes_module : (call : TopCall) → Went call → WritesModule call
writes_module call went number order =
    let did = did_order call went (Asked.Makes number) order in
    (did.1, whole_final call went (generated number) (made_whole number went.found call.out did.0))

pub writes_listing : (call : TopCall) → Went call → WritesListing call
writes_listing call went file limits bytes source further =
    elim (performed_source call went (Asked.Lists file limits) bytes source) [
      | inl came ↦ elim came.0 [
        | inl none ↦ inl (judged call went Unbuilt (λ kept. kept) (idle call.journal call.out came.1 none.1)
            (no_code_further limits went.found bytes further none.0))
        | inr some ↦ inr (some.0, some.1.1, (came.1, whole_final call went (listing_text some.0) (written_whole (listing_text some.0) went.found call.out some.2)))
      ]
      | inr it ↦ inl (judged call went Unbuilt (λ kept. kept) it.0 (inr (inr it.1)))
    ]

-- wrong words

usage_unkept : (number : ℕ) (cause : Cause) → cause ≡ Usage number → IsKept cause → ⊥
usage_unkept number cause is kept = let here : IsKept (Usage number) = subst IsKept is kept in here

pub refuses_words : (call : TopCall) → Went call → RefusesWords call
refuses_words call went number wrong = elim went.performed [
  | inl usage ↦ (
    untouched call went (usage_unkept usage.0 went.found usage.1) usage.3,
    final call went (λ cause. cause ≡ Usage number ⊎ IsFault cause) (λ cause fault. inr fault)
        (inl (usage.1 ∙ ap Usage (one_wrong_word call.words usage.0 number usage.2 wrong))),
  )
  | inr ran ↦ absurd (no_wrong_word call.words number (ran.0, ran.1) wrong)
]
