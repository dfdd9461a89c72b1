-- That no process is stopped is kept where statuses change.
use Rattle.std.proofs.Common.{◌≡◌, ℕ, zero, suc, Bool, true, false, cond, Option, None, Some, List, [], ◌∷◌, ◌++◌, map, set, refl, sym, ap, ◌∙◌, subst}
use Rattle.std.specs.Prelude.{◌||◌, ◌==◌}
use Rattle.std.specs.List.{list_any}
use Rattle.ink_base.specs.Actions.{Action, Send, SetFuture, BreakFuture, Spawn}
use Rattle.ink_base.specs.Numbered.{numbered, set_numbered}
use Rattle.ink_law_turns.proofs.Numbering.{numbered-suc, set_numbered-suc}
use Rattle.ink_rounds.specs.Machine.{Gone, statuses_without}
use Rattle.ink_statuses.specs.Readings.{is_stopped}
use Rattle.ink_worlds.specs.State.{woken, woken_at, woken_from_get, woken_from_take}
use Rattle.ink_worlds.specs.declared.status.Status.{Status}
use Rattle.ink_worlds.specs.declared.status.Status.TheVariants.{Ready, Out, Idle, Held, Stopped}
use Rattle.std.specs.List.{slice_get}

abbrev None-stopped : List Status → Type 0
None-stopped ss = list_any is_stopped ss ≡ false

either_right : (a b : Bool) → (a || b) ≡ false → b ≡ false
either_right true b e = absurd (cc)
either_right false b e = e

either_left : (a b : Bool) → (a || b) ≡ false → a ≡ false
either_left true b e = absurd (cc)
either_left false b e = refl

neither : (a b : Bool) → a ≡ false → b ≡ false → (a || b) ≡ false
neither true b left right = absurd (cc)
neither false b left right = right

any_set : (ss : List Status) (k : ℕ) (s : Status) → None-stopped ss → is_stopped s ≡ false → None-stopped (set ss k s)
any_set [] k s none calm = none
any_set (z ∷ ss) zero s none calm = neither (is_stopped s) (list_any is_stopped ss) calm (either_right (is_stopped z) (list_any is_stopped ss) none)
any_set (z ∷ ss) (suc k) s none calm =
    neither (is_stopped z) (list_any is_stopped (set ss k s)) (either_left (is_stopped z) (list_any is_stopped ss) none)
    (any_set ss k s (either_right (is_stopped z) (list_any is_stopped ss) none) calm)

pub any_put : (ss : List Status) (n : ℕ) (s : Status) → list_any is_stopped ss ≡ false → is_stopped s ≡ false → list_any is_stopped (set_numbered ss n s) ≡ false
any_put ss zero s none calm = none
any_put ss (suc k) s none calm = ap (λ (zs : List Status). list_any is_stopped zs) (set_numbered-suc ss k s) ∙ any_set ss k s none calm

pub any_without : (gone : Gone) (ss : List Status) → list_any is_stopped ss ≡ false → list_any is_stopped (statuses_without gone ss) ≡ false
any_without [] ss none = none
any_without (g ∷ gone) ss none = any_without gone (set_numbered ss g.0 (Out g.0 g.1.ran)) (any_put ss g.0 (Out g.0 g.1.ran) none refl)

got_calm : (b : Bool) (future : ℕ) → is_stopped (cond b Ready (Held future)) ≡ false
got_calm true future = refl
got_calm false future = refl

get_calm : (made : ℕ) (s : Status) → is_stopped s ≡ false → is_stopped (woken_from_get made s) ≡ false
get_calm made Ready calm = refl
get_calm made (Out seat ran) calm = refl
get_calm made Idle calm = refl
get_calm made (Held future) calm = got_calm (future == made) future
get_calm made Stopped calm = calm

any_got : (made : ℕ) (ss : List Status) → None-stopped ss → None-stopped (map (woken_from_get made) ss)
any_got made [] none = none
any_got made (s ∷ ss) none =
    neither (is_stopped (woken_from_get made s)) (list_any is_stopped (map (woken_from_get made) ss))
    (get_calm made s (either_left (is_stopped s) (list_any is_stopped ss) none))
    (any_got made ss (either_right (is_stopped s) (list_any is_stopped ss) none))

take_calm : (s : Status) → is_stopped s ≡ false → is_stopped (woken_from_take s) ≡ false
take_calm Ready calm = refl
take_calm (Out seat ran) calm = refl
take_calm Idle calm = refl
take_calm (Held future) calm = refl
take_calm Stopped calm = calm

any_there : (ss : List Status) (k : ℕ) (s : Status) → None-stopped ss → slice_get ss k ≡ Some s → is_stopped s ≡ false
any_there [] k s none at = absurd (cc)
any_there (z ∷ ss) zero s none at =
    let is : z ≡ s = cc in subst (λ (x : Status). is_stopped x ≡ false) is (either_left (is_stopped z) (list_any is_stopped ss) none)
any_there (z ∷ ss) (suc k) s none at = any_there ss k s (either_right (is_stopped z) (list_any is_stopped ss) none) at

any_at : (ss : List Status) (n : ℕ) (s : Status) → None-stopped ss → numbered ss n ≡ Some s → is_stopped s ≡ false
any_at ss zero s none at = absurd (cc)
any_at ss (suc k) s none at = any_there ss k s none (sym (numbered-suc ss k) ∙ at)

any_woken : (o : Option Status) (ss : List Status) (to : ℕ) → numbered ss to ≡ o → None-stopped ss → None-stopped (woken_at o ss to)
any_woken None ss to at none = none
any_woken (Some s) ss to at none = any_put ss to (woken_from_take s) none (take_calm s (any_at ss to s none at))

any_more : (ss : List Status) → None-stopped ss → None-stopped (ss ++ Ready ∷ [])
any_more [] none = refl
any_more (s ∷ ss) none =
    neither (is_stopped s) (list_any is_stopped (ss ++ Ready ∷ [])) (either_left (is_stopped s) (list_any is_stopped ss) none)
    (any_more ss (either_right (is_stopped s) (list_any is_stopped ss) none))

pub woken_calm : {V : Type 0} (made : Action V) (ss : List Status) → list_any is_stopped ss ≡ false → list_any is_stopped (woken made ss) ≡ false
woken_calm (Send to method values) ss none = any_woken (numbered ss to) ss to refl none
woken_calm (SetFuture future value) ss none = any_got future ss none
woken_calm (BreakFuture future) ss none = any_got future ss none
woken_calm (Spawn kind given) ss none = any_more ss none
woken_calm other ss none = none
