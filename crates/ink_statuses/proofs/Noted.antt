-- Who waits for a future is noted, and so who is woken.
use Rattle.std.proofs.Common.{◌≡◌, ◌≢◌, ℕ, zero, suc, Bool, true, false, eqb, cond, Option, None, Some, List, [], ◌∷◌, ◌++◌, map, set, refl, sym, ap, ◌∙◌, ⊎_elim, arith}
use Rattle.std.specs.List.{slice_get}
use Rattle.std.proofs.lemmas.Bool.{cases_eq}
use Rattle.ink_base.specs.Numbered.{numbered, set_numbered}
use Rattle.ink_law_turns.proofs.Numbering.{numbered-suc, set_numbered-suc, numbered-set_same, numbered-set_other}
use Rattle.ink_statuses.proofs.Shown.{unset}
use Rattle.ink_statuses.specs.Readings.{woken_for}
use Rattle.ink_statuses.specs.Waiting.{waits, may_wait, AreNoted}
use Rattle.ink_statuses.specs.declared.waiters.Waiter.{Waiter}
use Rattle.ink_statuses.specs.declared.waiters.Waiter.TheVariants.{One}
use Rattle.ink_worlds.specs.State.{woken_from_get}
use Rattle.ink_worlds.specs.declared.status.Status.{Status}
use Rattle.ink_worlds.specs.declared.status.Status.TheVariants.{Ready, Out, Idle, Held, Stopped}

unequal : (future made : ℕ) → (made ≡ future → ⊥) → woken_from_get future (Held made) ≡ Held made
unequal future made differ = let e : eqb made future ≡ false = grind arith in ap (λ b. cond b Ready (Held made)) e

-- one that doesn't wait for it is left
left_alone : (future : ℕ) (x : Status) → (x ≡ Held future → ⊥) → woken_from_get future x ≡ x
left_alone future Ready away = refl
left_alone future (Out seat ran) away = refl
left_alone future Idle away = refl
left_alone future (Held made) away = ⊎_elim (λ e. absurd (away (ap Held e))) (λ differ. unequal future made differ) (cases_eq made future)
left_alone future Stopped away = refl

-- nobody waits for it, and so nobody is woken
woken_none : (future : ℕ) (xs : List Status) → ((k : ℕ) → slice_get xs k ≡ Some (Held future) → ⊥) → map (woken_from_get future) xs ≡ xs
woken_none future [] none = refl
woken_none future (x ∷ xs) none =
    ap (λ y. y ∷ map (woken_from_get future) xs) (left_alone future x (λ e. none 0 (ap Some e))) ∙ ap (λ ys. x ∷ ys) (woken_none future xs (λ k. none (suc k)))

pub woken_nobody : (future : ℕ) (xs : List Status) → ((process : ℕ) → numbered xs process ≡ Some (Held future) → ⊥) → map (woken_from_get future) xs ≡ xs
woken_nobody future xs none = woken_none future xs (λ k e. none (suc k) (numbered-suc xs k ∙ e))

abbrev set_at : ℕ → Option Status → List Status → ℕ → List Status
set_at future None xs k = xs
set_at future (Some x) xs k = set xs k (woken_from_get future x)

push : (future : ℕ) (o : Option Status) (x : Status) (xs : List Status) (k : ℕ) → set_at future o (x ∷ xs) (suc k) ≡ x ∷ set_at future o xs k
push future None x xs k = refl
push future (Some y) x xs k = refl

never_zero : (k : ℕ) → suc k ≡ 0 → ⊥
never_zero k e = omega arith

-- one alone waits for it
woken_only : (future : ℕ) (xs : List Status) (place : ℕ) → ((k : ℕ) → slice_get xs k ≡ Some (Held future) → k ≡ place) → set_at future (slice_get xs place) xs place ≡ map (woken_from_get future) xs
woken_only future [] place only = refl
woken_only future (x ∷ xs) zero only = ap (λ ys. woken_from_get future x ∷ ys) (sym (woken_none future xs (λ k e. never_zero k (only (suc k) e))))
woken_only future (x ∷ xs) (suc place) only =
    push future (slice_get xs place) x xs place
    ∙ ap (λ ys. x ∷ ys) (woken_only future xs place (λ k e. let s : suc k ≡ suc place = only (suc k) e in omega arith))
    ∙ sym (ap (λ y. y ∷ map (woken_from_get future) xs) (left_alone future x (λ e. never_zero place (sym (only 0 (ap Some e))))))

by_place : (future : ℕ) (o : Option Status) (xs : List Status) (k : ℕ) → woken_for future o xs (suc k) ≡ set_at future o xs k
by_place future None xs k = refl
by_place future (Some x) xs k = set_numbered-suc xs k (woken_from_get future x)

no_zero : (xs : List Status) (x : Status) (p : ℕ) → p ≡ 0 → numbered xs p ≡ Some x → ⊥
no_zero xs x p e there = let none : None ≡ Some x = sym (ap (numbered xs) e) ∙ there in absurd (cc)

pub woken_one : (future process : ℕ) (xs : List Status) → ((other : ℕ) → numbered xs other ≡ Some (Held future) → other ≡ process) → woken_for future (numbered xs process) xs process ≡ map (woken_from_get future) xs
woken_one future zero xs only = sym (woken_nobody future xs (λ p e. no_zero xs (Held future) p (only p e) e))
woken_one future (suc k) xs only =
    ap (λ o. woken_for future o xs (suc k)) (numbered-suc xs k)
    ∙ by_place future (slice_get xs k) xs k
    ∙ woken_only future xs k (λ j e. let s : suc j ≡ suc k = only (suc j) (numbered-suc xs j ∙ e) in omega arith)

some_same : (x y : Status) → Some x ≡ Some y → x ≡ y
some_same x y e = cc

-- noted still: a process stands otherwise
pub noted_set : (table table' : List Waiter) (beyond beyond' : Bool) (xs ys : List Status) (process : ℕ) (x : Status) → AreNoted table beyond xs → ys ≡ set_numbered xs process x → ((future p : ℕ) → may_wait table beyond future p ≡ true → may_wait table' beyond' future p ≡ true) → ((future : ℕ) → x ≡ Held future → may_wait table' beyond' future process ≡ true) → AreNoted table' beyond' ys
noted_set table table' beyond beyond' xs ys process x noted after keeps own p future e =
    ⊎_elim (λ same. ap (may_wait table' beyond' future) same ∙ there (numbered xs process) refl (sym (ap (numbered ys) same) ∙ e))
    (λ differ. keeps future p (noted p future (sym (numbered-set_other xs process p x differ) ∙ ap (λ zs. numbered zs p) (sym after) ∙ e))) (cases_eq p process)
  where
    there : (o : Option Status) → numbered xs process ≡ o → numbered ys process ≡ Some (Held future) → may_wait table' beyond' future process ≡ true
    there None none held = keeps future process (noted process future (sym (ap (λ zs. numbered zs process) (after ∙ unset xs process x none)) ∙ held))
    there (Some old) some held = own future (some_same x (Held future) (sym (ap (λ zs. numbered zs process) after ∙ numbered-set_same xs process x old some) ∙ held))

still_held : (future other : ℕ) (x : Status) → woken_from_get future x ≡ Held other → (x ≡ Held other) × (other ≢ future)
still_held future other Ready e = absurd (cc)
still_held future other (Out seat ran) e = absurd (cc)
still_held future other Idle e = absurd (cc)
still_held future other (Held made) e =
    ⊎_elim
    (λ same. absurd (let ready : woken_from_get future (Held made) ≡ Ready = ap (λ b. cond b Ready (Held made)) (equal same) in let wrong : Ready ≡ Held other = sym ready ∙ e in cc))
    (λ differ. let held : Held made ≡ Held other = sym (unequal future made differ) ∙ e in (held, λ s. differ (let m : made ≡ other = cc in m ∙ s)))
    (cases_eq made future)
  where
    equal : made ≡ future → eqb made future ≡ true
    equal same = grind arith
still_held future other Stopped e = absurd (cc)

in_map : (future other : ℕ) (xs : List Status) (k : ℕ) → slice_get (map (woken_from_get future) xs) k ≡ Some (Held other) → other ≢ future
in_map future other [] k e = absurd (cc)
in_map future other (x ∷ xs) zero e = (still_held future other x (some_same (woken_from_get future x) (Held other) e)).1
in_map future other (x ∷ xs) (suc k) e = in_map future other xs k e

-- who was woken waits no more
held_no_more : (future other : ℕ) (xs : List Status) (p : ℕ) → numbered (map (woken_from_get future) xs) p ≡ Some (Held other) → other ≢ future
held_no_more future other xs zero e = absurd (cc)
held_no_more future other xs (suc k) e = in_map future other xs k (sym (numbered-suc (map (woken_from_get future) xs) k) ∙ e)

-- noted still: nobody waits for a future any more
pub noted_cleared : (table table' : List Waiter) (beyond beyond' : Bool) (xs ys : List Status) (future : ℕ) → AreNoted table beyond ys → ys ≡ map (woken_from_get future) xs → ((other p : ℕ) → other ≢ future → may_wait table' beyond' other p ≡ may_wait table beyond other p) → AreNoted table' beyond' ys
noted_cleared table table' beyond beyond' xs ys future noted after same p other e =
    same other p (held_no_more future other xs p (ap (λ zs. numbered zs p) (sym after) ∙ e)) ∙ noted p other e

-- noted still: a process that is ready was put behind the others
pub noted_push : (table : List Waiter) (beyond : Bool) (xs ys : List Status) → AreNoted table beyond xs → ys ≡ xs ++ Ready ∷ [] → AreNoted table beyond ys
noted_push table beyond xs ys noted after zero future e = absurd (cc)
noted_push table beyond xs ys noted after (suc k) future e =
    noted (suc k) future (numbered-suc xs k ∙ before xs k (sym (numbered-suc (xs ++ Ready ∷ []) k) ∙ sym (ap (λ zs. numbered zs (suc k)) after) ∙ e))
  where
    before : (xs : List Status) (k : ℕ) → slice_get (xs ++ Ready ∷ []) k ≡ Some (Held future) → slice_get xs k ≡ Some (Held future)
    before [] zero e = absurd (cc)
    before [] (suc k) e = absurd (cc)
    before (x ∷ xs) zero e = e
    before (x ∷ xs) (suc k) e = before xs k e

-- who waits is among those that are told
pub noted_who : (table : List Waiter) (beyond : Bool) (xs : List Status) (future : ℕ) (who : Waiter) → AreNoted table beyond xs → ((process : ℕ) → may_wait table beyond future process ≡ true → waits (Some who) false process ≡ true) → (process : ℕ) → numbered xs process ≡ Some (Held future) → waits (Some who) false process ≡ true
noted_who table beyond xs future who noted told process held = told process (noted process future held)

pub told_one : (process other : ℕ) → waits (Some (One other)) false process ≡ true → process ≡ other
told_one process other told = grind arith
