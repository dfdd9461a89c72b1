-- A world of which no process is leased yet, and one of which none is leased any more.
use Rattle.std.proofs.Common.{◌≡◌, ℕ, suc, Bool, true, false, ◌||◌, cond, Option, None, List, [], ◌∷◌, ◌++◌, eqb, refl, sym, ap, ◌∙◌, subst, inl}
use Rattle.std.proofs.lemmas.Bool.{eq-eqb}
use Rattle.std.specs.List.{list_any}
use Rattle.std.specs.Option.{is_some}
use Rattle.std.specs.Prelude.{IfSome, not}
use Rattle.ink_code.specs.declared.code.Code.{Code}
use Rattle.ink_leased.proofs.Keeping.{went_of}
use Rattle.ink_leased.specs.Leased.{Fits, IsLeased}
use Rattle.ink_leased.specs.Lending.{lease_from, lease_of}
use Rattle.ink_leased.specs.Standing.{StandsFor, has_ended, is_up, rests}
use Rattle.ink_leased.specs.declared.leased.Began.{Began}
use Rattle.ink_leased.specs.declared.leased.Leased.{Leased}
use Rattle.ink_post.specs.Meaning.{Ends}
use Rattle.ink_post.specs.Worlds.{Stands}
use Rattle.ink_post.specs.declared.answer.End.TheVariants as end
use Rattle.ink_post.specs.declared.post.Post.{Post}
use Rattle.ink_run.specs.Sinks.{SinkState}
use Rattle.ink_run.specs.declared.world.World.{World}
use Rattle.ink_statuses.specs.Readings.{is_out}
use Rattle.ink_worlds.specs.declared.halt.Halt.{Halt}
use Rattle.ink_worlds.specs.declared.status.Status.{Status}
use Rattle.ink_worlds.specs.declared.status.Status.TheVariants.{Ready, Out, Idle, Held, Stopped}

begins_for : (code : Code) (post : Post) (sink : SinkState) → Stands code post → post.halt ≡ None → post.wrong ≡ None → StandsFor code post sink post sink false
begins_for code post sink stands calm right = record {
  limits = refl;
  turned = record { run = stands.1.ahead.turned; turns = stands.1.ahead.turns };
  stands = λ _. stands;
  written = λ _ origin written. written;
  went = λ origin written. went_of code post origin sink written;
  wrong = subst (λ (o : Option ℕ). IfSome o (λ process. Ends code post.limits post.journal.entries (end.Wrong process))) (sym right) tt;
  ended = inl calm;
  over = sym (ap (λ (h : Option Halt). is_some h || is_some post.wrong) calm ∙ ap (λ (o : Option ℕ). is_some o) right);
}

pub begins_leased : {K : Type 0} (seen : K → SinkState) (code : Code) (leased : Leased K) → leased.began.code.value ≡ code → leased.began.world.value ≡ leased.world → leased.is_over ≡ false → Stands code leased.world.post → leased.world.post.halt ≡ None → leased.world.post.wrong ≡ None → IsLeased seen leased leased.began
begins_leased {K} seen code leased same_code same over stands calm right = record {
  same = refl;
  stands =
      subst (λ (x : Code). StandsFor x leased.began.world.value.post (seen leased.began.world.value.sink) leased.world.post (seen leased.world.sink) leased.is_over) (sym same_code)
      (subst (λ (x : World K). StandsFor code x.post (seen x.sink) leased.world.post (seen leased.world.sink) leased.is_over) (sym same)
      (subst (λ (b : Bool). StandsFor code leased.world.post (seen leased.world.sink) leased.world.post (seen leased.world.sink) b) (sym over)
      (begins_for code leased.world.post (seen leased.world.sink) stands calm right)));
}

none_from : (number : ℕ) (statuses : List Status) (seat : ℕ) → list_any is_out statuses ≡ false → lease_from number statuses seat ≡ []
none_from number [] seat none = refl
none_from number (Ready ∷ statuses) seat none = none_from (suc number) statuses seat none
none_from number (Out other ran ∷ statuses) seat none = absurd (cc)
none_from number (Idle ∷ statuses) seat none = none_from (suc number) statuses seat none
none_from number (Held future ∷ statuses) seat none = none_from (suc number) statuses seat none
none_from number (Stopped ∷ statuses) seat none = none_from (suc number) statuses seat none

pub none_leased : (statuses : List Status) → list_any is_out statuses ≡ false → (seat : ℕ) → lease_of statuses seat ≡ []
none_leased statuses none seat = none_from 1 statuses seat none

one_leased : (number seat ran : ℕ) (rest : List (ℕ × ℕ)) (b : Bool) → b ≡ true → (cond b ((number, ran) ∷ []) []) ++ rest ≡ [] → ⊥
one_leased number seat ran rest true is none = cc
one_leased number seat ran rest false is none = cc

out_from : (number : ℕ) (statuses : List Status) → ((seat : ℕ) → lease_from number statuses seat ≡ []) → list_any is_out statuses ≡ false
out_from number [] none = refl
out_from number (Ready ∷ statuses) none = out_from (suc number) statuses none
out_from number (Out seat ran ∷ statuses) none = absurd (one_leased number seat ran (lease_from (suc number) statuses seat) (eqb seat seat) (eq-eqb seat seat refl) (none seat))
out_from number (Idle ∷ statuses) none = out_from (suc number) statuses none
out_from number (Held future ∷ statuses) none = out_from (suc number) statuses none
out_from number (Stopped ∷ statuses) none = out_from (suc number) statuses none

pub none_out : (statuses : List Status) → ((seat : ℕ) → lease_of statuses seat ≡ []) → list_any is_out statuses ≡ false
none_out statuses none = out_from 1 statuses none

pub rests_so : (post : Post) (is_over : Bool) → is_over ≡ has_ended post → (is_over || not (is_up post.statuses.items)) ≡ true → rests post ≡ true
rests_so post is_over over rest = ap (λ (b : Bool). b || not (is_up post.statuses.items)) (sym over) ∙ rest

-- what a world stands for that came of this one
pub told : {K : Type 0} (seen : K → SinkState) (code : Code) (world : World K) (began : Began K) (leased : Leased K) → began.code.value ≡ code → began.world.value ≡ world → IsLeased seen leased began → StandsFor code world.post (seen world.sink) leased.world.post (seen leased.world.sink) leased.is_over
told {K} seen code world began leased same_code same is =
    subst (λ (x : Code). StandsFor x world.post (seen world.sink) leased.world.post (seen leased.world.sink) leased.is_over) same_code
    (subst (λ (x : World K). StandsFor began.code.value x.post (seen x.sink) leased.world.post (seen leased.world.sink) leased.is_over) same is.stands)

-- the code and the limits are those of the world with which it begins
pub fits_so : {K : Type 0} (code : Code) (limits : List ℕ) (world : World K) (began : Began K) → began.code.value ≡ code → began.world.value ≡ world → limits ≡ world.post.limits → Fits began code limits
fits_so {K} code limits world began same_code same is = (sym same_code, is ∙ ap (λ (x : World K). x.post.limits) (sym same))
