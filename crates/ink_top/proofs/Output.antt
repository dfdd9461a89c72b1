-- A fault of the output shows in the cause.
use Rattle.std.proofs.Common.{◌≡◌, ℕ, ◌⊎◌, inl, inr, List, Option, None, Some, refl, sym, subst}
use Rattle.ink_words.specs.Commands.{Asked}
use Rattle.ink_code.specs.Listing.{listing_text}
use Rattle.ink_code.specs.declared.code.Code.{Code}
use Rattle.ink_generator.specs.Generated.{generated}
use Rattle.ink_causes.proofs.Sinks.{idle_or_failed, whole_or_failed}
use Rattle.ink_causes.specs.Devices.{Change, SinkState, HasFailed}
use Rattle.ink_causes.specs.declared.cause.Cause.{Cause}
use Rattle.ink_causes.specs.declared.cause.Cause.TheVariants.{OutOfMemory, Refused, Written, WriteFault, Wrong}
use Rattle.ink_commands.specs.Orders.{Came, Did, FromFile}
use Rattle.ink_commands.specs.Runs.{Replays, Wrote, WroteIn, WroteRounds}
use Rattle.ink_commands.specs.Sources.{IsIdle, MadeModule, PrintedSource, WritesText}
use Rattle.ink_top.specs.Headline.{TopCall, IsFoundWrong, ShowsOutputFaults}
use Rattle.ink_top.proofs.Ending.{Went, change, deed, plain, recorded, unmade, unwritten, ends, told_as}

-- a cause by which a fault of the output shows
abbrev Shows : Cause → Type 0
Shows cause = cause ≡ WriteFault ⊎ cause ≡ OutOfMemory ⊎ IsFoundWrong cause

idle_shows : (cause : Cause) (journal : List ℕ) (out : Change SinkState) → HasFailed out → IsIdle journal out → Shows cause
idle_shows cause journal out failed idle = absurd (idle_or_failed out idle.output failed)

same_shows : (cause : Cause) (out : Change SinkState) → HasFailed out → out.after ≡ out.before → Shows cause
same_shows cause out failed same = absurd (idle_or_failed out same failed)

text_shows : (text : List ℕ) (cause : Cause) (out : Change SinkState) → HasFailed out → WritesText text cause out → Shows cause
text_shows text Written out failed writes = absurd (whole_or_failed out text writes failed)
text_shows text WriteFault out failed writes = inl refl
text_shows text cause out failed writes = absurd writes

-- what went out whole didn't fail
whole_shows : (cause : Cause) (code : Code) (limits journal : List ℕ) (out : Change SinkState) → HasFailed out → Replays code limits journal out → Shows cause
whole_shows cause code limits journal out failed replays = absurd (whole_or_failed out replays.run.shared.output replays.gets failed)

wrote_shows : (cause : Cause) (code : Code) (limits journal : List ℕ) (out : Change SinkState) → HasFailed out → Wrote cause code limits journal out → Shows cause
wrote_shows WriteFault code limits journal out failed wrote = inl refl
wrote_shows cause code limits journal out failed wrote = whole_shows cause code limits journal out failed wrote

rounds_show : (cause : Cause) (code : Code) (limits journal : List ℕ) (out : Change SinkState) → HasFailed out → WroteRounds cause code limits journal out → Shows cause
rounds_show (Wrong process) code limits journal out failed wrote = inr (inr (process, refl))
rounds_show OutOfMemory code limits journal out failed wrote = inr (inl refl)
rounds_show WriteFault code limits journal out failed wrote = inl refl
rounds_show cause code limits journal out failed wrote = whole_shows cause code limits journal out failed wrote

ran_shows : (rounds : Option ℕ) (cause : Cause) (code : Code) (limits journal : List ℕ) (out : Change SinkState) → HasFailed out
    → WroteIn rounds cause code limits journal out → Shows cause
ran_shows None cause code limits journal out failed wrote = wrote_shows cause code limits journal out failed wrote
ran_shows (Some rounds) cause code limits journal out failed wrote = rounds_show cause code limits journal out failed wrote

print_shows : (limits : List ℕ) (cause : Cause) (bytes : List ℕ) (out : Change SinkState) → HasFailed out → PrintedSource limits cause bytes out → Shows cause
print_shows limits (Refused refusal) bytes out failed printed = same_shows (Refused refusal) out failed printed.1
print_shows limits OutOfMemory bytes out failed printed = inr (inl refl)
print_shows limits cause bytes out failed printed = text_shows printed.0 cause out failed printed.2

made_shows : (number : ℕ) (cause : Cause) (out : Change SinkState) → HasFailed out → MadeModule number cause out → Shows cause
made_shows number OutOfMemory out failed made = inr (inl refl)
made_shows number cause out failed made = text_shows (generated number) cause out failed made

module _ (call : TopCall) (went : Went call) (failed : HasFailed call.out) where
  from_shows : (file : List ℕ) (most : ℕ) (Came : List ℕ → Type 0) → ((bytes : List ℕ) → Came bytes → Shows went.found)
      → FromFile file most Came (deed call went) → Shows went.found
  from_shows file most Came came from = elim from [
    | inl it ↦ came it.0 it.2
    | inr it ↦ idle_shows went.found call.journal call.out failed it.1
  ]

  order_shows : (asked : Asked) → Did asked (deed call went) → Shows went.found
  order_shows (Asked.Runs file limits rounds recording) did =
      from_shows file _ _ (λ bytes came. elim came.0 [
        | inl none ↦ idle_shows went.found call.journal call.out failed none.1
        | inr some ↦ ran_shows rounds went.found some.0 limits call.journal call.out failed some.2.wrote
      ]) did
  order_shows (Asked.Checks file limits) did =
      from_shows file _ _ (λ bytes came. idle_shows went.found call.journal call.out failed came.1) did
  order_shows (Asked.Lists file limits) did =
      from_shows file _ _ (λ bytes came. elim came.0 [
        | inl none ↦ same_shows went.found call.out failed none.1
        | inr some ↦ text_shows (listing_text some.0) went.found call.out failed some.2
      ]) did
  order_shows (Asked.Prints file limits) did =
      from_shows file _ _ (λ bytes came. print_shows limits went.found bytes call.out failed came.0) did
  order_shows (Asked.Replays file journal limits) did =
      from_shows file _ _ (λ bytes came. elim came [
        | inl none ↦ idle_shows went.found call.journal call.out failed none.1
        | inr some ↦ from_shows journal _ _ (λ own it. elim it.1 [
          | inl none ↦ idle_shows went.found call.journal call.out failed none.1
          | inr done ↦ wrote_shows went.found some.0 limits call.journal call.out failed done.2.wrote
        ]) some.2
      ]) did
  order_shows (Asked.Makes number) did = made_shows number went.found call.out failed did.0

  found_shows : Shows went.found
  found_shows = elim went.performed [
    | inl usage ↦ idle_shows went.found call.journal call.out failed usage.3
    | inr ran ↦ order_shows ran.0 ran.3
  ]

  told_shows : Shows went.told
  told_shows = elim (told_as went.found went.told went.name went.report (change call.err.before went.err) went.tells) [
    | inl same ↦ subst Shows (sym same) found_shows
    | inr place ↦ elim place.1 [ inl memory ↦ inr (inl memory) | inr write ↦ inl write.0 ]
  ]

pub shows_output_faults : (call : TopCall) → Went call → ShowsOutputFaults call
shows_output_faults call went failed = elim (ends call went) [
  | plain why nothing ↦ subst Shows (sym nothing.same) (told_shows call went failed)
  | recorded name asks same kept records reads err ↦ subst Shows (sym same) (told_shows call went failed)
  | unmade name kept is files tries ↦ inr (inl is)
  | unwritten name asks kept is fails reads tries ↦ inl is
]
