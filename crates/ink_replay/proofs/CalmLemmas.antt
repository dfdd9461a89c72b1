-- How the processes stand behind an entry that was made.
use Rattle.std.proofs.Common.{◌≡◌, ◌≢◌, ℕ, Bool, true, false, eqb, cond, Option, None, Some, List, [], ◌∷◌, ◌++◌, length, map, refl, ap, sym, ◌∙◌, subst, inl, inr}
use Rattle.std.specs.Prelude.{nat_le}
use Rattle.std.specs.Option.{option_map}
use Rattle.std.proofs.lemmas.Bool.{cases_eq}
use Rattle.ink_base.specs.declared.limits.Limit.TheVariants as limit
use Rattle.ink_base.specs.Actions.{Action, Take, Print, Spawn, Send, NewFuture, SetFuture, BreakFuture, GetFuture, Panic, as_made, is_enabled}
use Rattle.ink_base.specs.Limits.{limit_of}
use Rattle.ink_base.specs.Numbered.{numbered, set_numbered}
use Rattle.ink_law_turns.specs.Machines.{Machine}
use Rattle.ink_law_turns.proofs.Numbering.{numbered-set_found, numbered-set_other, numbered-append_cases, numbered-map, none_some, some_is}
use Rattle.ink_replay.specs.Calm.{AreAtRest, IsAtRest}
use Rattle.ink_worlds.specs.State.{State, Came, Went, GivesUp, Wants, Spent, Answer, Kept, Moved, Waits, Panics, Full, Over, Wrong, ActsBy, ChecksInBy, ComesBack, Makes, status_after, text_by, woken, woken_at, woken_from_take, woken_from_get}
use Rattle.ink_worlds.specs.declared.halt.Halt.{Halt}
use Rattle.ink_worlds.specs.declared.status.Status.{Status}
use Rattle.ink_worlds.specs.declared.status.Status.TheVariants.{Ready, Out, Idle, Held, Stopped}

-- all but one are at rest
abbrev pub OthersAtRest : ℕ → List Status → Type 0
OthersAtRest process ss = (other : ℕ) (status : Status) → other ≢ process → numbered ss other ≡ Some status → IsAtRest status

pub rest_set : (ss : List Status) (process : ℕ) (x : Status) → IsAtRest x → OthersAtRest process ss → AreAtRest (set_numbered ss process x)
rest_set ss process x rests others i s at =
    elim (cases_eq i process) [
      | inl same ↦ (
          let found : numbered (set_numbered ss process x) process ≡ Some s = subst (λ (k : ℕ). numbered (set_numbered ss process x) k ≡ Some s) same at in
          subst IsAtRest (sym (numbered-set_found ss process x s found)) rests)
      | inr differ ↦ others i s differ (sym (numbered-set_other ss process i x differ) ∙ at)
    ]

rest_take : (s : Status) → IsAtRest s → IsAtRest (woken_from_take s)
rest_take Ready h = tt
rest_take (Out seat ran) h = h
rest_take Idle h = tt
rest_take (Held future) h = tt
rest_take Stopped h = h

rest_cond : (b : Bool) (future : ℕ) → IsAtRest (cond b Ready (Held future))
rest_cond true future = tt
rest_cond false future = tt

rest_get : (made : ℕ) (s : Status) → IsAtRest s → IsAtRest (woken_from_get made s)
rest_get made Ready h = tt
rest_get made (Out seat ran) h = h
rest_get made Idle h = tt
rest_get made (Held future) h = rest_cond (eqb future made) future
rest_get made Stopped h = h

rest_map : (f : Status → Status) → ((s : Status) → IsAtRest s → IsAtRest (f s)) → (ss : List Status) → AreAtRest ss → AreAtRest (map f ss)
rest_map f keeps ss all i s at = by_found (numbered ss i) refl (sym (numbered-map f ss i) ∙ at)
  where
    by_found : (o : Option Status) → numbered ss i ≡ o → option_map f o ≡ Some s → IsAtRest s
    by_found None is e = absurd (none_some s e)
    by_found (Some one) is e = subst IsAtRest (some_is (f one) s e) (keeps one (all i one is))

rest_at : (o : Option Status) (ss : List Status) (to : ℕ) → numbered ss to ≡ o → AreAtRest ss → AreAtRest (woken_at o ss to)
rest_at None ss to is all = all
rest_at (Some status) ss to is all = rest_set ss to (woken_from_take status) (rest_take status (all to status is)) (λ other s differ at. all other s at)

rest_more : (ss : List Status) → AreAtRest ss → AreAtRest (ss ++ Ready ∷ [])
rest_more ss all i s at =
    elim (numbered-append_cases ss Ready s i at) [
      | inl there ↦ all i s there
      | inr last ↦ subst IsAtRest last.1 tt
    ]

module _ {V : Type 0} where
  rest_woken : (made : Action V) (ss : List Status) → AreAtRest ss → AreAtRest (woken made ss)
  rest_woken (Send to method values) ss all = rest_at (numbered ss to) ss to refl all
  rest_woken (SetFuture future value) ss all = rest_map (woken_from_get future) (rest_get future) ss all
  rest_woken (BreakFuture future) ss all = rest_map (woken_from_get future) (rest_get future) ss all
  rest_woken (Spawn kind given) ss all = rest_more ss all
  rest_woken Take ss all = all
  rest_woken (Print text) ss all = all
  rest_woken NewFuture ss all = all
  rest_woken (GetFuture future) ss all = all
  rest_woken (Panic text) ss all = all

  -- behind an action that was made all are at rest, unless it's a panic
  rest_made : (made : Action V) (ss : List Status) (process : ℕ) → OthersAtRest process ss → text_by made ≡ None → AreAtRest (woken made (set_numbered ss process (status_after made)))
  rest_made (Panic text) ss process others none = absurd (none_some text (sym none))
  rest_made Take ss process others none = rest_woken (Take) (set_numbered ss process Ready) (rest_set ss process Ready tt others)
  rest_made (Print text) ss process others none = rest_woken (Print text) (set_numbered ss process Ready) (rest_set ss process Ready tt others)
  rest_made (Spawn kind given) ss process others none = rest_woken (Spawn kind given) (set_numbered ss process Ready) (rest_set ss process Ready tt others)
  rest_made (Send to method values) ss process others none = rest_woken (Send to method values) (set_numbered ss process Ready) (rest_set ss process Ready tt others)
  rest_made NewFuture ss process others none = rest_woken (NewFuture) (set_numbered ss process Ready) (rest_set ss process Ready tt others)
  rest_made (SetFuture future value) ss process others none = rest_woken (SetFuture future value) (set_numbered ss process Ready) (rest_set ss process Ready tt others)
  rest_made (BreakFuture future) ss process others none = rest_woken (BreakFuture future) (set_numbered ss process Ready) (rest_set ss process Ready tt others)
  rest_made (GetFuture future) ss process others none = rest_woken (GetFuture future) (set_numbered ss process Ready) (rest_set ss process Ready tt others)

-- the answers of an action that was made
abbrev pub IsMade : Answer → Type 0
IsMade Kept = ⊥
IsMade Moved = Unit {0}
IsMade Waits = ⊥
IsMade Panics = Unit {0}
IsMade Full = ⊥
IsMade (Over steps) = ⊥
IsMade Wrong = ⊥

module _ {P V : Type 0} (m : Machine P V) (limits : List ℕ) (process : ℕ) (p : P) (old : State P V) (answer : Answer) (new : State P V) (is_made : IsMade answer) where
  abbrev Calm : Type 0
  Calm = OthersAtRest process old.statuses → new.text ≡ None → AreAtRest new.statuses

  made_as : (one : Answer) → answer ≡ one → IsMade one
  made_as one is = subst IsMade is is_made

  calm_makes : (made : Action V) (o : Option P) → Makes m made process o old answer new → Calm
  calm_makes made None makes others none = absurd (made_as Wrong makes.0)
  calm_makes made (Some left) makes others none =
      subst (λ (s : State P V). AreAtRest s.statuses) (sym makes.1)
      (rest_made made old.statuses process others (sym (ap (λ (s : State P V). s.text) makes.1) ∙ none))

  calm_acts : (wish : Action V) (enabled full : Bool) → ActsBy m limits process wish p old enabled full answer new → Calm
  calm_acts wish false full acts others none = absurd (made_as Waits acts.0)
  calm_acts wish true true acts others none = absurd (made_as Full acts.0)
  calm_acts wish true false acts others none =
      calm_makes (as_made wish old.shared limits) (m.left (as_made wish old.shared limits) process old.shared p) acts others none

  calm_back : (came : Came V) → ComesBack m limits process came p old answer new → Calm
  calm_back Went back others none = absurd (made_as Kept back.0)
  calm_back GivesUp back others none = absurd (made_as Kept back.0)
  calm_back (Wants wish) back others none = calm_acts wish (is_enabled wish process old.shared) (nat_le (limit_of limit.Events limits) (length old.journal)) back others none
  calm_back (Spent steps) back others none = absurd (made_as (Over steps) back.0)

  -- what is made is made while the run goes on, and leaves all at rest
  pub calm_checks : (came : Came V) (halt : Option Halt) → ChecksInBy m limits process came p old halt answer new → (halt ≡ None) × Calm
  calm_checks came None checks = (refl, calm_back came checks)
  calm_checks came (Some ended) checks = absurd (made_as Kept checks.0)
