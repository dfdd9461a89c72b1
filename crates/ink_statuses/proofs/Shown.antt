-- Marks that show which statuses pass, after one was replaced or put behind the others; the least mark is the first of them.
use Rattle.std.proofs.Common.{◌≡◌, ◌≢◌, ℕ, zero, suc, ◌+◌, ◌-◌, ◌*◌, ◌^◌, ◌<◌, ◌≤◌, Bool, true, false, eqb, cond, Option, None, Some, List, [], ◌∷◌, ◌++◌, length, get_or, set, nat_lt, refl, ap, sym, ◌∙◌, subst, ⊎_elim, arith}
use Rattle.std.specs.List.{slice_get, position, position_or_len}
use Rattle.std.proofs.lemmas.List.Sums.{position_or_len_is}
use Rattle.std.proofs.lemmas.List.{length-set, length_push}
use Rattle.std.proofs.lemmas.Option.{slice_get-get_or, slice_get_within}
use Rattle.ink_base.specs.Numbered.{numbered, set_numbered}
use Rattle.ink_law_turns.proofs.Numbering.{numbered-suc, set_numbered-suc}
use Rattle.std.proofs.lemmas.Bool.{cases_eq}
use Rattle.ink_marks.specs.Marks.{is_marked, IsLeast}
use Rattle.ink_statuses.specs.Readings.{passes_at, Shows}
use Rattle.ink_worlds.specs.declared.status.Status.{Status}
use Rattle.ink_worlds.specs.declared.status.Status.TheVariants.{Ready}

equal : (n m : ℕ) → n ≡ m → eqb n m ≡ true
equal n m e = grind arith

unequal : (n m : ℕ) → n ≢ m → eqb n m ≡ false
unequal n m differ = grind arith

at_set : (p : Status → Bool) (xs : List Status) (i : ℕ) (x : Status) (n : ℕ) → i < length xs → passes_at p (slice_get (set xs i x) n) ≡ cond (eqb n i) (p x) (passes_at p (slice_get xs n))
at_set p [] i x n within = absurd (omega arith)
at_set p (y ∷ xs) zero x zero within = refl
at_set p (y ∷ xs) zero x (suc n) within = sym (ap (λ b. cond b (p x) (passes_at p (slice_get xs n))) (unequal (suc n) 0 (λ e. omega arith)))
at_set p (y ∷ xs) (suc i) x zero within = sym (ap (λ b. cond b (p x) (p y)) (unequal 0 (suc i) (λ e. omega arith)))
at_set p (y ∷ xs) (suc i) x (suc n) within = at_set p xs i x n (omega arith) ∙ sym (ap (λ b. cond b (p x) (passes_at p (slice_get xs n))) (same n i))
  where
    same : (n i : ℕ) → eqb (suc n) (suc i) ≡ eqb n i
    same n i = ⊎_elim (λ e. equal (suc n) (suc i) (ap suc e) ∙ sym (equal n i e)) (λ differ. unequal (suc n) (suc i) (λ e. differ (omega arith)) ∙ sym (unequal n i differ)) (cases_eq n i)

-- one was replaced
pub shows_set : (p : Status → Bool) (marks marks' : List ℕ) (xs : List Status) (i : ℕ) (x : Status) → Shows p marks xs → i < length xs → ((n : ℕ) → is_marked marks' n ≡ cond (eqb n i) (p x) (is_marked marks n)) → Shows p marks' (set xs i x)
shows_set p marks marks' xs i x shows within put n = put n ∙ ap (λ b. cond (eqb n i) (p x) b) (shows n) ∙ sym (at_set p xs i x n within)

at_push : (p : Status → Bool) (xs : List Status) (x : Status) (n : ℕ) → passes_at p (slice_get (xs ++ x ∷ []) n) ≡ cond (eqb n (length xs)) (p x) (passes_at p (slice_get xs n))
at_push p [] x zero = refl
at_push p [] x (suc n) = sym (ap (λ b. cond b (p x) false) (unequal (suc n) 0 (λ e. omega arith)))
at_push p (y ∷ xs) x zero = sym (ap (λ b. cond b (p x) (p y)) (unequal 0 (suc (length xs)) (λ e. omega arith)))
at_push p (y ∷ xs) x (suc n) = at_push p xs x n ∙ sym (ap (λ b. cond b (p x) (passes_at p (slice_get xs n))) (same n (length xs)))
  where
    same : (n i : ℕ) → eqb (suc n) (suc i) ≡ eqb n i
    same n i = ⊎_elim (λ e. equal (suc n) (suc i) (ap suc e) ∙ sym (equal n i e)) (λ differ. unequal (suc n) (suc i) (λ e. differ (omega arith)) ∙ sym (unequal n i differ)) (cases_eq n i)

-- one was put behind the others
pub shows_push : (p : Status → Bool) (marks marks' : List ℕ) (xs : List Status) (x : Status) → Shows p marks xs → ((n : ℕ) → is_marked marks' n ≡ cond (eqb n (length xs)) (p x) (is_marked marks n)) → Shows p marks' (xs ++ x ∷ [])
shows_push p marks marks' xs x shows put n = put n ∙ ap (λ b. cond (eqb n (length xs)) (p x) b) (shows n) ∙ sym (at_push p xs x n)

passes_within : (p : Status → Bool) (xs : List Status) (n : ℕ) → passes_at p (slice_get xs n) ≡ true → n < length xs
passes_within p [] n e = absurd (cc)
passes_within p (x ∷ xs) zero e = omega arith
passes_within p (x ∷ xs) (suc n) e = let b : n < length xs = passes_within p xs n e in omega arith

-- a mark stands at a status
pub mark_within : (p : Status → Bool) (marks : List ℕ) (xs : List Status) (n : ℕ) → Shows p marks xs → is_marked marks n ≡ true → n < length xs
mark_within p marks xs n shows marked = passes_within p xs n (sym (shows n) ∙ marked)

at_place : (p : Status → Bool) (xs : List Status) (n : ℕ) → n < length xs → passes_at p (slice_get xs n) ≡ p (get_or xs n Ready)
at_place p xs n within = ap (passes_at p) (slice_get-get_or xs n Ready within)

by_place : (p : Status → Bool) (xs : List Status) (i : ℕ) → position_or_len p xs ≡ i → position p xs ≡ cond (nat_lt i (length xs)) (Some i) None
by_place p xs i e = ap (λ n. cond (nat_lt n (length xs)) (Some n) None) e

first_of : (p : Status → Bool) (xs : List Status) (o : Option ℕ) → IsLeast (λ n. passes_at p (slice_get xs n)) o → position p xs ≡ o
first_of p xs None none =
    let e : position_or_len p xs ≡ length xs = position_or_len_is p xs (length xs) Ready (omega arith) (λ k below. sym (at_place p xs k below) ∙ none k) (λ below. absurd (omega arith)) in
    let past : nat_lt (length xs) (length xs) ≡ false = grind arith in
    by_place p xs (length xs) e ∙ ap (λ b. cond b (Some (length xs)) None) past
first_of p xs (Some k) found =
    let within : k < length xs = passes_within p xs k found.0 in
    let e : position_or_len p xs ≡ k = position_or_len_is p xs k Ready (omega arith) (λ m below. sym (at_place p xs m (omega arith)) ∙ found.1 m below) (λ below. sym (at_place p xs k within) ∙ found.0) in
    let there : nat_lt k (length xs) ≡ true = grind arith in
    by_place p xs k e ∙ ap (λ b. cond b (Some k) None) there

pub first_marked : (p : Status → Bool) (marks : List ℕ) (xs : List Status) (o : Option ℕ) → Shows p marks xs → IsLeast (is_marked marks) o → position p xs ≡ o
first_marked p marks xs o shows least = first_of p xs o (alike o least)
  where
    alike : (o : Option ℕ) → IsLeast (is_marked marks) o → IsLeast (λ n. passes_at p (slice_get xs n)) o
    alike None none = λ n. sym (shows n) ∙ none n
    alike (Some k) found = (sym (shows k) ∙ found.0, λ m below. sym (shows m) ∙ found.1 m below)

-- what a list of statuses keeps with its marks
abbrev pub Kept : (Status → Bool) → List ℕ → List Status → Type 0
Kept p marks xs = (length xs < 2 ^ 32) × (length xs ≤ 64 * length marks) × Shows p marks xs

pub kept_set : (p : Status → Bool) (marks marks' : List ℕ) (xs ys : List Status) (process : ℕ) (x old : Status) → Kept p marks xs → numbered xs process ≡ Some old → ys ≡ set_numbered xs process x → length marks' ≡ length marks → (is_marked marks (process - 1) ≡ p old → (n : ℕ) → is_marked marks' n ≡ cond (eqb n (process - 1)) (p x) (is_marked marks n)) → Kept p marks' ys
kept_set p marks marks' xs ys zero x old kept there after long put = absurd (cc)
kept_set p marks marks' xs ys (suc k) x old kept there after long put =
    let at : slice_get xs k ≡ Some old = sym (numbered-suc xs k) ∙ there in
    let below : suc k - 1 ≡ k = omega arith in
    let within : k < length xs = slice_get_within xs k old at in
    let now : ys ≡ set xs k x = after ∙ set_numbered-suc xs k x in
    let same : length ys ≡ length xs = ap length now ∙ length-set xs k x in
    let few : length xs < 2 ^ 32 = kept.0 in
    let room : length xs ≤ 64 * length marks = kept.1 in
    let marked : is_marked marks (suc k - 1) ≡ p old = ap (is_marked marks) below ∙ kept.2 k ∙ ap (passes_at p) at in
    let shown : Shows p marks' (set xs k x) = shows_set p marks marks' xs k x kept.2 within (λ n. put marked n ∙ ap (λ i. cond (eqb n i) (p x) (is_marked marks n)) below) in
    (omega arith, omega arith, λ n. shown n ∙ sym (ap (λ zs. passes_at p (slice_get zs n)) now))

set_past : (xs : List Status) (k : ℕ) (x : Status) → slice_get xs k ≡ None → set xs k x ≡ xs
set_past [] k x e = refl
set_past (y ∷ xs) zero x e = absurd (cc)
set_past (y ∷ xs) (suc k) x e = ap (λ zs. y ∷ zs) (set_past xs k x e)

pub unset : (xs : List Status) (process : ℕ) (x : Status) → numbered xs process ≡ None → set_numbered xs process x ≡ xs
unset xs zero x e = refl
unset xs (suc k) x e = set_numbered-suc xs k x ∙ set_past xs k x (sym (numbered-suc xs k) ∙ e)

pub kept_unset : (p : Status → Bool) (marks : List ℕ) (xs ys : List Status) (process : ℕ) (x : Status) → Kept p marks xs → numbered xs process ≡ None → ys ≡ set_numbered xs process x → Kept p marks ys
kept_unset p marks xs ys process x kept none after = subst (Kept p marks) (sym (after ∙ unset xs process x none)) kept

pub kept_push : (p : Status → Bool) (marks marks' : List ℕ) (xs ys : List Status) (x : Status) → Kept p marks xs → ys ≡ xs ++ x ∷ [] → length xs + 1 < 2 ^ 32 → length xs < 64 * length marks → length marks' ≡ length marks → ((n : ℕ) → is_marked marks' n ≡ cond (eqb n (length xs)) (p x) (is_marked marks n)) → Kept p marks' ys
kept_push p marks marks' xs ys x kept after few room long put =
    let more : length ys ≡ length xs + 1 = ap length after ∙ length_push xs x in
    let shown : Shows p marks' (xs ++ x ∷ []) = shows_push p marks marks' xs x kept.2 put in
    (omega arith, omega arith, λ n. shown n ∙ sym (ap (λ zs. passes_at p (slice_get zs n)) after))
