-- What the end of a run means, by what ended the world and by how its processes stand.
use Rattle.std.proofs.Common.{◌≡◌, ◌<◌, ◌≤◌, ◌+◌, ◌||◌, ◌⊎◌, ℕ, zero, suc, Bool, true, false, Option, None, Some, List, [], ◌∷◌, length, get_or, nat_lt, cond, position, refl, ap, sym, ◌∙◌, subst, inl, inr, arith, ltb-false, add-one}
use Rattle.std.specs.List.{list_any, position_or_len, slice_get}
use Rattle.std.specs.Option.{is_some}
use Rattle.std.specs.Prelude.{IfSome}
use Rattle.std.proofs.lemmas.List.Quantifiers.{position-Some}
use Rattle.std.proofs.lemmas.List.Sums.{fails_before_first}
use Rattle.std.proofs.lemmas.Option.{get_or_from_slice_get, slice_get-get_or}
use Rattle.ink_base.specs.Actions.{Action, SharedState, as_made, is_enabled}
use Rattle.ink_base.specs.Numbered.{numbered}
use Rattle.ink_code.specs.declared.code.Code.{Code}
use Rattle.ink_code.specs.Process.{Process}
use Rattle.ink_code.specs.Trees.{Parcel}
use Rattle.ink_law_replays.specs.Next.{AllAtTake, IsAtTake, IsLeastAtGet, Waits}
use Rattle.ink_law_replays.proofs.NextLemmas.{full_ready, held_at_get, idle_at_take, over_spent, panic_last, reply_wrong, step_wrong}
use Rattle.ink_law_runs.specs.CodeMachine.{code_machine, opening_run}
use Rattle.ink_law_turns.specs.Ahead.{StandsAt}
use Rattle.ink_law_turns.specs.Machines.{Machine, Comes, Fails}
use Rattle.ink_law_turns.specs.Turns.{Run}
use Rattle.ink_law_turns.proofs.Numbering.{none_some, numbered_level, numbered-suc, some_is}
use Rattle.ink_post.specs.Answers.{ChecksBy, ChecksHome, TellsWrong, with_line}
use Rattle.ink_post.specs.Asks.{ComesAs, IsComing, told_came}
use Rattle.ink_post.specs.Ends.{end_in, rest_by, some_is_up, waiting_end}
use Rattle.ink_post.specs.Meaning.{Ends, EndsIn}
use Rattle.ink_post.specs.Turning.{SeesBy, SeesWish, SeesWrong}
use Rattle.ink_post.specs.Worlds.{CodeState, Stands, StandsAfter, world_of}
use Rattle.ink_post.specs.declared.answer.Answer.{Answer}
use Rattle.ink_post.specs.declared.answer.Answer.TheVariants as a
use Rattle.ink_post.specs.declared.answer.Came.{Came as OneCame}
use Rattle.ink_post.specs.declared.answer.End.{End}
use Rattle.ink_post.specs.declared.answer.End.TheVariants as end
use Rattle.ink_post.specs.declared.answer.Looked.{Looked}
use Rattle.ink_post.specs.declared.answer.Looked.TheVariants as looked
use Rattle.ink_post.specs.declared.post.Post.{Post}
use Rattle.ink_statuses.specs.Readings.{is_held, is_out, is_ready, is_stopped}
use Rattle.ink_worlds.specs.State.{Came}
use Rattle.ink_worlds.specs.State as w
use Rattle.ink_worlds.specs.declared.halt.Halt.{Halt}
use Rattle.ink_worlds.specs.declared.halt.Halt.TheVariants as halt
use Rattle.ink_worlds.specs.declared.status.Status.{Status}
use Rattle.ink_worlds.specs.declared.status.Status.TheVariants.{Held, Idle, Out, Ready, Stopped}
use Rattle.ink_post.specs.Ends.{end_by}

-- the same after another journal that is the same
pub ends_same : (code : Code) (ns ns' js js' : List ℕ) (end : End) → ns' ≡ ns → js' ≡ js → Ends code ns' js' end → Ends code ns js end
ends_same code ns ns' js js' end limits journal ends =
    subst (λ (x : List ℕ). Ends code x js end) limits (subst (λ (x : List ℕ). Ends code ns' x end) journal ends)

or_parts : (a b : Bool) → (a || b) ≡ false → (a ≡ false) × (b ≡ false)
or_parts true b e = absurd (cc)
or_parts false b e = (refl, e)

-- a list in which none passes
module _ {X : Type 0} (p : X → Bool) where
  none_passes : (xs : List X) (k : ℕ) (x : X) → list_any p xs ≡ false → slice_get xs k ≡ Some x → p x ≡ false
  none_passes [] k x e there = absurd (none_some x there)
  none_passes (y ∷ ys) zero x e there = ap p (sym (some_is y x there)) ∙ (or_parts (p y) (list_any p ys) e).0
  none_passes (y ∷ ys) (suc k) x e there = none_passes ys k x (or_parts (p y) (list_any p ys) e).1 there

  below : (xs : List X) (k : ℕ) (x : X) → slice_get xs k ≡ Some x → k < length xs
  below [] k x there = absurd (none_some x there)
  below (y ∷ ys) zero x there = omega arith
  below (y ∷ ys) (suc k) x there = let low = below ys k x there in omega (arith, low)

  fails_at : (xs : List X) (k : ℕ) (x : X) → p (get_or xs k x) ≡ false → slice_get xs k ≡ Some x → p x ≡ false
  fails_at xs k x fails there = ap p (sym (get_or_from_slice_get xs k x x there)) ∙ fails

  past_all : (inside : Bool) (xs : List X) → nat_lt (position_or_len p xs) (length xs) ≡ inside → cond inside (Some (position_or_len p xs)) None ≡ None → length xs ≤ position_or_len p xs
  past_all true xs is e = absurd (cc)
  past_all false xs is e = ltb-false (position_or_len p xs) (length xs) is

  none_found : (xs : List X) (k : ℕ) (x : X) → position p xs ≡ None → slice_get xs k ≡ Some x → p x ≡ false
  none_found xs k x e there =
      let past : length xs ≤ position_or_len p xs = past_all (nat_lt (position_or_len p xs) (length xs)) xs refl e in
      let low : k < length xs = below xs k x there in
      let first : k < position_or_len p xs = omega (arith, past, low) in
      fails_at xs k x (fails_before_first p xs k x first) there

none_is : {X : Type 0} (o : Option X) → is_some o ≡ false → o ≡ None
none_is None e = refl
none_is (Some x) e = absurd (cc)

-- a status where no process is up
resting : (s : Status) → is_ready s ≡ false → is_out s ≡ false → is_stopped s ≡ false → (s ≡ Idle) ⊎ ((future : ℕ) × (s ≡ Held future))
resting Ready ready out stopped = absurd (cc)
resting (Out seat ran) ready out stopped = absurd (cc)
resting Idle ready out stopped = inl refl
resting (Held future) ready out stopped = inr (future, refl)
resting Stopped ready out stopped = absurd (cc)

held_is : (s : Status) → is_held s ≡ true → (future : ℕ) × (s ≡ Held future)
held_is Ready e = absurd (cc)
held_is (Out seat ran) e = absurd (cc)
held_is Idle e = absurd (cc)
held_is (Held future) e = (future, refl)
held_is Stopped e = absurd (cc)

not_held : (s : Status) (future : ℕ) → s ≡ Held future → is_held s ≡ false → ⊥
not_held s future is e = let held : is_held s ≡ true = ap is_held is in absurd (cc)

rests_at : (statuses : List Status) (k : ℕ) (s : Status) → some_is_up statuses ≡ false → slice_get statuses k ≡ Some s → (s ≡ Idle) ⊎ ((future : ℕ) × (s ≡ Held future))
rests_at statuses k s quiet there =
    let parts = or_parts (is_some (position is_ready statuses) || list_any is_out statuses) (list_any is_stopped statuses) quiet in
    let others = or_parts (is_some (position is_ready statuses)) (list_any is_out statuses) parts.0 in
    resting s (none_found is_ready statuses k s (none_is (position is_ready statuses) others.0) there) (none_passes is_out statuses k s others.1 there) (none_passes is_stopped statuses k s parts.1 there)

module _ (code : Code) (post : Post) (output : List ℕ) (stands : StandsAfter code post output) where
  abbrev m : Machine Process Parcel
  m = code_machine code post.limits

  abbrev state : CodeState
  state = world_of post output

  abbrev turned : Run Process Parcel
  turned = stands.ahead.turned

  abbrev Means : End → Type 0
  Means end = EndsIn m post.limits post.journal.entries turned end

  ends_as : (end : End) → Means end → Ends code post.limits post.journal.entries end
  ends_as end means = record { run = turned; turns = stands.ahead.turns; means = means }

  halt_means : (ended : Halt) → post.halt ≡ Some ended → Means (end_by ended)
  halt_means (halt.Panicked process) is = panic_last m post.limits (opening_run code) state stands process refl is
  halt_means halt.SinkFailed is = tt
  halt_means (halt.Events process) is = full_ready m post.limits (opening_run code) state stands process is
  halt_means (halt.Local process steps) is = over_spent m post.limits (opening_run code) state stands process steps is

  -- where no process is up, each waits
  module _ (quiet : some_is_up post.statuses.items ≡ false) where
    status_of : (process : ℕ) (p : Process) → numbered turned.processes process ≡ Some p → (s : Status) × (numbered post.statuses.items process ≡ Some s)
    status_of process p there = numbered_level turned.processes post.statuses.items process p (sym (stands.statuses ∙ stands.ahead.count)) there

    take_at : (process : ℕ) → numbered post.statuses.items process ≡ Some Idle → IsAtTake m turned process
    take_at process at = idle_at_take m post.limits (opening_run code) state stands process at

    waits_by : (process : ℕ) (s : Status) → numbered post.statuses.items process ≡ Some s → Waits m turned process
    waits_by zero s at = absurd (none_some s at)
    waits_by (suc k) s at =
        elim (rests_at post.statuses.items k s quiet (sym (numbered-suc post.statuses.items k) ∙ at)) [
          | inl idle ↦ inl (take_at (suc k) (at ∙ ap Some idle))
          | inr held ↦ inr (held_at_get m post.limits (opening_run code) state stands (suc k) held.0 (at ∙ ap Some held.1))
        ]

    takes_by : (process : ℕ) (s : Status) → numbered post.statuses.items process ≡ Some s → is_held s ≡ false → IsAtTake m turned process
    takes_by zero s at free = absurd (none_some s at)
    takes_by (suc k) s at free =
        elim (rests_at post.statuses.items k s quiet (sym (numbered-suc post.statuses.items k) ∙ at)) [
          | inl idle ↦ take_at (suc k) (at ∙ ap Some idle)
          | inr held ↦ absurd (not_held s held.0 held.1 free)
        ]

    free_by : (process : ℕ) (s : Status) → numbered post.statuses.items process ≡ Some s → position is_held post.statuses.items ≡ None → is_held s ≡ false
    free_by zero s at none = absurd (none_some s at)
    free_by (suc k) s at none = none_found is_held post.statuses.items k s none (sym (numbered-suc post.statuses.items k) ∙ at)

    all_take : position is_held post.statuses.items ≡ None → AllAtTake m turned
    all_take none process p there =
        let s = status_of process p there in
        takes_by process s.0 s.1 (free_by process s.0 s.1 none)

    -- those before the first that is held
    free_before : (index other : ℕ) (s : Status) → numbered post.statuses.items other ≡ Some s → ((k : ℕ) → k < index → is_held (get_or post.statuses.items k s) ≡ false) → other < index + 1 → is_held s ≡ false
    free_before index zero s at fails low = absurd (none_some s at)
    free_before index (suc k) s at fails low =
        let first : k < index = omega (arith, low) in
        fails_at is_held post.statuses.items k s (fails k first) (sym (numbered-suc post.statuses.items k) ∙ at)

    least_held : (index : ℕ) → position is_held post.statuses.items ≡ Some index → IsLeastAtGet m turned (index + 1)
    least_held index found =
        let first = position-Some is_held post.statuses.items index Idle found in
        let there : slice_get post.statuses.items index ≡ Some (get_or post.statuses.items index Idle) = slice_get-get_or post.statuses.items index Idle first.0 in
        let held = held_is (get_or post.statuses.items index Idle) first.1 in
        let at : numbered post.statuses.items (index + 1) ≡ Some (Held held.0) = ap (λ (n : ℕ). numbered post.statuses.items n) (add-one index) ∙ (numbered-suc post.statuses.items index ∙ (there ∙ ap Some held.1)) in
        record {
          waits = λ other p there. let s = status_of other p there in waits_by other s.0 s.1;
          get = held_at_get m post.limits (opening_run code) state stands (index + 1) held.0 at;
          least = λ other p there low.
              let s = status_of other p there in
              takes_by other s.0 s.1 (free_before index other s.0 s.1 (position-Some is_held post.statuses.items index s.0 found).2 low);
        }

    wait_means : (o : Option ℕ) → position is_held post.statuses.items ≡ o → Means (waiting_end o)
    wait_means None is = all_take is
    wait_means (Some index) is = least_held index is

  rest_means : (up : Bool) → some_is_up post.statuses.items ≡ up → IfSome (rest_by up post.statuses.items) (λ end. Ends code post.limits post.journal.entries end)
  rest_means true is = tt
  rest_means false is = ends_as (waiting_end (position is_held post.statuses.items)) (wait_means is (position is_held post.statuses.items) refl)

  in_means : (o : Option Halt) (wrong : Option ℕ) → post.halt ≡ o → wrong ≡ None → IfSome (end_in o wrong post.statuses.items) (λ end. Ends code post.limits post.journal.entries end)
  in_means (Some ended) wrong is none = ends_as (end_by ended) (halt_means ended is)
  in_means None (Some process) is none = absurd (cc)
  in_means None None is none = rest_means (some_is_up post.statuses.items) refl

  shared_is : state.shared ≡ turned.shared
  shared_is = stands.shared ∙ stands.ahead.shared

  -- a process that goes wrong
  module _ (process : ℕ) (before : Process) (stood : StandsAt m post.limits (opening_run code) post.journal.entries process before) where
    step_ends : m.step before ≡ Fails → Ends code post.limits post.journal.entries (end.Wrong process)
    step_ends fails = ends_as (end.Wrong process) (step_wrong m post.limits (opening_run code) post.journal.entries turned process before stands.ahead.turns stood fails)

    reply_ends : (wish : Action Parcel) (waiting : Process) → m.step before ≡ Comes wish waiting → is_enabled wish process state.shared ≡ true → m.left (as_made wish state.shared post.limits) process state.shared waiting ≡ None → Ends code post.limits post.journal.entries (end.Wrong process)
    reply_ends wish waiting comes enabled none =
        ends_as (end.Wrong process) (reply_wrong m post.limits (opening_run code) post.journal.entries turned process before waiting wish stands.ahead.turns stood comes
        (subst (λ (s : SharedState Parcel). is_enabled wish process s ≡ true) shared_is enabled)
        (subst (λ (s : SharedState Parcel). m.left (as_made wish s post.limits) process s waiting ≡ None) shared_is none))

-- how a run ended, whose code was never found wrong
pub ends_mean : (code : Code) (post : Post) (found : Option End) → found ≡ end_in post.halt post.wrong post.statuses.items → Stands code post → post.wrong ≡ None → IfSome found (λ end. Ends code post.limits post.journal.entries end)
ends_mean code post found is stands none =
    subst (λ (o : Option End). IfSome o (λ end. Ends code post.limits post.journal.entries end)) (sym is) (in_means code post stands.0 stands.1 post.halt post.wrong refl none)

-- a process that comes home with a wrong instruction, or whose reply fits nowhere
module _ (code : Code) (post : Post) (process seat : ℕ) (came : OneCame) (p : Process) (coming : IsComing code post process seat came p) (stands : Stands code post) where
  abbrev Wrongs : Type 0
  Wrongs = Ends code post.limits post.journal.entries (end.Wrong process)

  step_is : (code_machine code post.limits).step coming.comes.before ≡ Fails → Wrongs
  step_is fails = step_ends code post stands.0 stands.1 process coming.comes.before coming.comes.stood fails

  wrong_came : (o : Option (Came Parcel)) (new : CodeState) → ComesAs code post.limits coming.comes.before o p → ChecksBy code post.limits process o p (world_of post stands.0) new a.Wrong → Wrongs
  wrong_came None new from checks = step_is from
  wrong_came (Some (w.Wants wish)) new from checks = reply_ends code post stands.0 stands.1 process coming.comes.before coming.comes.stood wish p from checks.0.0 checks.0.1
  wrong_came (Some w.Went) new from checks = absurd checks.0
  wrong_came (Some w.GivesUp) new from checks = absurd checks.0
  wrong_came (Some (w.Spent steps)) new from checks = absurd checks.0

  pub tells_wrong : (new : Post) (answer : Answer) → ((output : List ℕ) → ChecksBy code post.limits process (told_came came) p (world_of post output) (world_of new (with_line answer output)) answer) → TellsWrong code process post answer
  tells_wrong new a.Kept checks = tt
  tells_wrong new a.Moved checks = tt
  tells_wrong new (a.Printed text) checks = tt
  tells_wrong new a.Waits checks = tt
  tells_wrong new a.Panicked checks = tt
  tells_wrong new a.JournalFull checks = tt
  tells_wrong new (a.Spent steps) checks = tt
  tells_wrong new a.Wrong checks = wrong_came (told_came came) (world_of new stands.0) coming.comes.from (checks stands.0)

  wish_right : (wish : Action Parcel) (old new : CodeState) (enabled : Bool) → SeesWish process wish p old enabled new looked.Wrong → ⊥
  wish_right wish old new true sees = let e = sees.0 in cc
  wish_right wish old new false sees = let e = sees.0 in cc

  wrong_look : (o : Option (Came Parcel)) (old new : CodeState) → ComesAs code post.limits coming.comes.before o p → SeesBy process o p old new looked.Wrong → Wrongs
  wrong_look None old new from sees = step_is from
  wrong_look (Some (w.Wants wish)) old new from sees = absurd (wish_right wish old new (is_enabled wish process old.shared) sees)
  wrong_look (Some w.Went) old new from sees = absurd (let e = sees.0 in cc)
  wrong_look (Some w.GivesUp) old new from sees = absurd (let e = sees.0 in cc)
  wrong_look (Some (w.Spent steps)) old new from sees = absurd (let e = sees.0 in cc)

  pub sees_wrong : (new : Post) (seen : Looked) → ((output : List ℕ) → SeesBy process (told_came came) p (world_of post output) (world_of new output) seen) → SeesWrong code process post seen
  sees_wrong new looked.Enabled sees = tt
  sees_wrong new looked.Waits sees = tt
  sees_wrong new (looked.Spent steps) sees = tt
  sees_wrong new looked.Wrong sees = wrong_look (told_came came) (world_of post []) (world_of new []) coming.comes.from (sees [])
