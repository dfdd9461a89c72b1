-- All are at rest behind an entry that was made, and where a run begins. Nothing is a journal that leads to a process without a turn.
use Rattle.std.proofs.Common.{◌≡◌, ℕ, zero, suc, ◌+◌, Option, None, Some, List, [], ◌∷◌, ◌++◌, length, take, refl, ap, sym, ◌∙◌, subst, arith}
use Rattle.std.specs.List.{slice_get}
use Rattle.std.specs.Option.{option_map}
use Rattle.ink_base.specs.Numbered.{numbered, set_numbered}
use Rattle.ink_code.specs.declared.code.Code.{Code}
use Rattle.ink_code.specs.Process.{Process}
use Rattle.ink_code.specs.Trees.{Parcel}
use Rattle.ink_law_runs.specs.CodeMachine.{code_machine, opening_run}
use Rattle.ink_law_turns.specs.Ahead.{panicked}
use Rattle.ink_law_turns.specs.Turns.{Run, Turn, Turns}
use Rattle.ink_law_turns.proofs.Determined.{turns_once, turns_parts}
use Rattle.ink_law_turns.proofs.Numbering.{none_some, numbered-map, numbered-set_other, some_is}
use Rattle.ink_post.specs.Answers.{ActsAs, ChecksBy, told_answer, with_line}
use Rattle.ink_post.specs.Asks.{came_with, told_came}
use Rattle.ink_post.specs.Worlds.{CodeState, Stands, world_of}
use Rattle.ink_post.specs.declared.answer.Answer.{Answer}
use Rattle.ink_post.specs.declared.answer.Answer.TheVariants as a
use Rattle.ink_post.specs.declared.answer.End.{End}
use Rattle.ink_post.specs.declared.answer.End.TheVariants as end
use Rattle.ink_post.specs.declared.post.Post.{Post}
use Rattle.ink_replay.specs.Calm.{AreAtRest, EntersCalm, IsAtRest, IsCalm}
use Rattle.ink_replay.specs.Entries.{Begins, EndsAt, EndsIn, NextIs, entered_by}
use Rattle.ink_replay.specs.Refusals.{IsNoJournal, IsStuck}
use Rattle.ink_replay.proofs.CalmLemmas.{IsMade, OthersAtRest, calm_checks}
use Rattle.ink_run.specs.Sinks.{SinkState}
use Rattle.ink_run.specs.Written.{ActsOut, Writes}
use Rattle.ink_run.specs.declared.applied.Applied.{Applied}
use Rattle.ink_run.specs.declared.applied.Applied.TheVariants as got
use Rattle.ink_worlds.specs.Standing.{panic_in, text_in}
use Rattle.ink_worlds.specs.State.{Came, first_state}
use Rattle.ink_worlds.specs.declared.status.Status.{Status}
use Rattle.ink_worlds.specs.declared.status.Status.TheVariants.{Out, Ready}

-- where no panic ended the run there is no text of one
no_text : (panic : Option (ℕ × List ℕ)) → None ≡ panicked panic → text_in panic ≡ None
no_text None e = refl
no_text (Some one) e = absurd (none_some one.0 e)

-- in a run that goes on all are at rest
calm_goes : (code : Code) (old : Post) → Stands code old → old.halt ≡ None → old.text ≡ None
calm_goes code old stands is = stands.1.text ∙ no_text stands.1.run.panic (ap panic_in (sym is) ∙ stands.1.panic)

pub goes_rest : (code : Code) (old : Post) → Stands code old → IsCalm old → old.halt ≡ None → AreAtRest old.statuses.items
goes_rest code old stands calm is = calm (calm_goes code old stands is)

module _ (code : Code) (process : ℕ) (old : Post) (stands : Stands code old) (calm : IsCalm old) where
  calm_text : old.halt ≡ None → old.text ≡ None
  calm_text is = calm_goes code old stands is

  others_rest : (middle : Post) (p : Process) → middle.statuses.items ≡ set_numbered old.statuses.items process (Out process p.ran) → old.halt ≡ None → OthersAtRest process middle.statuses.items
  others_rest middle p is halt other status differ at =
      calm (calm_text halt) other status
      (sym (numbered-set_other old.statuses.items process other (Out process p.ran) differ) ∙ (ap (λ (ss : List Status). numbered ss other) (sym is) ∙ at))

  calm_checked : (limits : List ℕ) (p q : Process) (middle : Post) (new : CodeState) (answer : Answer) → IsMade (told_answer answer) → middle.statuses.items ≡ set_numbered old.statuses.items process (Out process p.ran) → middle.halt ≡ old.halt → (o : Option (Came Parcel)) → ChecksBy code limits process o q (world_of middle []) new answer → new.text ≡ None → AreAtRest new.statuses
  calm_checked limits p q middle new a.Moved is_made is halt None checks none = absurd (let e = checks.0 in cc)
  calm_checked limits p q middle new (a.Printed text) is_made is halt None checks none = absurd (let e = checks.0 in cc)
  calm_checked limits p q middle new a.Panicked is_made is halt None checks none = absurd (let e = checks.0 in cc)
  calm_checked limits p q middle new a.Kept is_made is halt o checks none = absurd is_made
  calm_checked limits p q middle new a.Waits is_made is halt o checks none = absurd is_made
  calm_checked limits p q middle new a.JournalFull is_made is halt o checks none = absurd is_made
  calm_checked limits p q middle new (a.Spent steps) is_made is halt o checks none = absurd is_made
  calm_checked limits p q middle new a.Wrong is_made is halt o checks none = absurd is_made
  calm_checked limits p q middle new a.Moved is_made is halt (Some came) checks none =
      let found = calm_checks (code_machine code limits) limits process q (world_of middle []) (told_answer a.Moved) new is_made came middle.halt checks in
      found.1 (others_rest middle p is (sym halt ∙ found.0)) none
  calm_checked limits p q middle new (a.Printed text) is_made is halt (Some came) checks none =
      let found = calm_checks (code_machine code limits) limits process q (world_of middle []) (told_answer (a.Printed text)) new is_made came middle.halt checks in
      found.1 (others_rest middle p is (sym halt ∙ found.0)) none
  calm_checked limits p q middle new a.Panicked is_made is halt (Some came) checks none =
      let found = calm_checks (code_machine code limits) limits process q (world_of middle []) (told_answer a.Panicked) new is_made came middle.halt checks in
      found.1 (others_rest middle p is (sym halt ∙ found.0)) none

  calm_acts : (new : Post) (answer : Answer) → IsMade (told_answer answer) → ActsAs code process old new answer → IsCalm new
  calm_acts new answer is_made acts =
      let by = acts.lends [] in
      calm_checked acts.middle.limits acts.p acts.goes.q acts.middle (world_of new (with_line answer [])) answer is_made
      (ap (λ (s : CodeState). s.statuses) by.2) (ap (λ (s : CodeState). s.halt) by.2) (told_came (came_with acts.goes.stepped)) (acts.goes.checks [])

  same_calm : (middle new : Post) → new ≡ middle → IsCalm middle → IsCalm new
  same_calm middle new is h = subst IsCalm (sym is) h

  calm_out : (middle new : Post) (before after : SinkState) (answer : Answer) (g : Applied) → ActsAs code process old middle answer → Writes answer middle new before after g → EntersCalm (entered_by process g) new
  calm_out middle new before after answer got.Kept acts writes = tt
  calm_out middle new before after answer got.Waits acts writes = tt
  calm_out middle new before after answer got.SinkFailed acts writes = tt
  calm_out middle new before after answer got.JournalFull acts writes = tt
  calm_out middle new before after answer (got.Spent steps) acts writes = tt
  calm_out middle new before after answer got.Wrong acts writes = tt
  calm_out middle new before after (a.Printed text) got.Moved acts writes = same_calm middle new writes.1 (calm_acts middle (a.Printed text) tt acts)
  calm_out middle new before after a.Moved got.Moved acts writes = same_calm middle new writes.1 (calm_acts middle a.Moved tt acts)
  calm_out middle new before after a.Kept got.Moved acts writes = absurd (let e = writes.0 in cc)
  calm_out middle new before after a.Waits got.Moved acts writes = absurd (let e = writes.0 in cc)
  calm_out middle new before after a.Panicked got.Moved acts writes = absurd (let e = writes.0 in cc)
  calm_out middle new before after a.JournalFull got.Moved acts writes = absurd (let e = writes.0 in cc)
  calm_out middle new before after (a.Spent steps) got.Moved acts writes = absurd (let e = writes.0 in cc)
  calm_out middle new before after a.Wrong got.Moved acts writes = absurd (let e = writes.0 in cc)
  calm_out middle new before after (a.Printed text) got.Panicked acts writes = absurd writes
  calm_out middle new before after a.Panicked got.Panicked acts writes = same_calm middle new writes.1 (calm_acts middle a.Panicked tt acts)
  calm_out middle new before after a.Kept got.Panicked acts writes = absurd (let e = writes.0 in cc)
  calm_out middle new before after a.Waits got.Panicked acts writes = absurd (let e = writes.0 in cc)
  calm_out middle new before after a.Moved got.Panicked acts writes = absurd (let e = writes.0 in cc)
  calm_out middle new before after a.JournalFull got.Panicked acts writes = absurd (let e = writes.0 in cc)
  calm_out middle new before after (a.Spent steps) got.Panicked acts writes = absurd (let e = writes.0 in cc)
  calm_out middle new before after a.Wrong got.Panicked acts writes = absurd (let e = writes.0 in cc)

-- all are at rest behind an entry that was made
pub enters_calm : (code : Code) (process : ℕ) (old new : Post) (before after : SinkState) (g : Applied) → Stands code old → IsCalm old → ActsOut code process old new before after g → EntersCalm (entered_by process g) new
enters_calm code process old new before after g stands calm out = calm_out code process old stands calm out.middle new before after out.answer g out.acts out.writes

-- and where the run begins
pub begins_calm : (code : Code) (post : Post) → world_of post [] ≡ first_state (opening_run code) → IsCalm post
begins_calm code post begins none i s at =
    by_found (numbered (opening_run code).processes i)
    (sym (numbered-map (λ (p : Process). Ready) (opening_run code).processes i) ∙ (ap (λ (w : CodeState). numbered w.statuses i) (sym begins) ∙ at))
  where
    by_found : (o : Option Process) → option_map (λ (p : Process). Ready) o ≡ Some s → IsAtRest s
    by_found None e = absurd (none_some s e)
    by_found (Some p) e = subst IsAtRest (some_is Ready s e) tt

take_next : (given : List ℕ) (index process : ℕ) → slice_get given index ≡ Some process → take (suc index) given ≡ take index given ++ process ∷ []
take_next [] index process there = absurd (none_some process there)
take_next (x ∷ given) zero process there = ap (λ (y : ℕ). y ∷ []) (some_is x process there)
take_next (x ∷ given) (suc index) process there = ap (λ (ys : List ℕ). x ∷ ys) (take_next given index process there)

-- the entries up to one whose process has no turn are no journal
pub no_journal : (code : Code) (limits : List ℕ) (process : ℕ) (post : Post) (given : List ℕ) (index : ℕ) → post.limits ≡ limits → IsStuck code process post → post.journal.entries ≡ take index given → slice_get given index ≡ Some process → IsNoJournal code limits (take (index + 1) given)
no_journal code limits process post given index same stuck made there =
    subst (λ (l : List ℕ). IsNoJournal code l (take (index + 1) given)) same (λ run turns.
    let next : index + 1 ≡ suc index = omega arith in
    let whole : take (index + 1) given ≡ post.journal.entries ++ process ∷ [] =
    ap (λ (n : ℕ). take n given) next ∙ (take_next given index process there ∙ ap (λ (js : List ℕ). js ++ process ∷ []) (sym made)) in
    let parts = turns_parts (code_machine code post.limits) post.limits post.journal.entries (process ∷ []) (opening_run code) run
    (subst (λ (js : List ℕ). Turns (code_machine code post.limits) post.limits (opening_run code) js run) whole turns) in
    let is : parts.0 ≡ stuck.run = turns_once (code_machine code post.limits) post.limits post.journal.entries (opening_run code) parts.0 stuck.run parts.1 stuck.turns in
    (subst (λ (r : Run Process Parcel). (mid : Run Process Parcel) → Turn (code_machine code post.limits) post.limits process r mid → ⊥) (sym is) stuck.stuck) parts.2.0 parts.2.1)

-- the entries behind one that was made
pub made_next : (given made new : List ℕ) (index process : ℕ) → new ≡ made ++ process ∷ [] → made ≡ take index given → slice_get given index ≡ Some process → new ≡ take (index + 1) given
made_next given made new index process is all there =
    let next : index + 1 ≡ suc index = omega arith in
    is ∙ (ap (λ (js : List ℕ). js ++ process ∷ []) all ∙ (sym (take_next given index process there) ∙ ap (λ (n : ℕ). take n given) (sym next)))

take_again : (given : List ℕ) (count : ℕ) → take (length (take count given)) given ≡ take count given
take_again [] zero = refl
take_again [] (suc count) = refl
take_again (x ∷ given) zero = refl
take_again (x ∷ given) (suc count) = ap (λ (ys : List ℕ). x ∷ ys) (take_again given count)

begins_by : (given made : List ℕ) (count : ℕ) → made ≡ take count given → Begins given made
begins_by given made count is = is ∙ (sym (take_again given count) ∙ ap (λ (js : List ℕ). take (length js) given) (sym is))

take_all : (given : List ℕ) (index process : ℕ) → slice_get given index ≡ Some process → length (take index given) ≡ index
take_all [] index process there = absurd (none_some process there)
take_all (x ∷ given) zero process there = refl
take_all (x ∷ given) (suc index) process there = ap suc (take_all given index process there)

next_by : (given made : List ℕ) (index process at : ℕ) → made ≡ take index given → slice_get given index ≡ Some process → at ≡ process → NextIs at given made
next_by given made index process at is there same =
    ap (λ (n : ℕ). slice_get given n) (ap length is ∙ take_all given index process there) ∙ (there ∙ ap Some (sym same))

-- an entry at which the run ended, among those that were given
pub ends_in : (code : Code) (process : ℕ) (found : End) (old new : Post) (before after : SinkState) (given : List ℕ) (index : ℕ) → EndsAt code process found old new before after → old.journal.entries ≡ take index given → slice_get given index ≡ Some process → EndsIn found given new.journal.entries
ends_in code process end.SinkFailed old new before after given index ends made there =
    begins_by given new.journal.entries (index + 1) (made_next given old.journal.entries new.journal.entries index process ends.1 made there)
ends_in code process (end.Events at) old new before after given index ends made there =
    (begins_by given new.journal.entries index (ends.1 ∙ made), next_by given new.journal.entries index process at (ends.1 ∙ made) there ends.2)
ends_in code process (end.Local at steps) old new before after given index ends made there =
    (begins_by given new.journal.entries index (ends.1 ∙ made), next_by given new.journal.entries index process at (ends.1 ∙ made) there ends.2)
ends_in code process (end.Wrong at) old new before after given index ends made there =
    (begins_by given new.journal.entries index (ends.1 ∙ made), next_by given new.journal.entries index process at (ends.1 ∙ made) there ends.2)
ends_in code process end.Quiet old new before after given index ends made there = absurd ends
ends_in code process (end.Waiting at) old new before after given index ends made there = absurd ends
ends_in code process (end.Panicked at) old new before after given index ends made there = absurd ends
