-- A step of the work list keeps what it knows, and comes nearer to its end.
use Rattle.std.proofs.Common.{◌≡◌, ℕ, zero, suc, ◌<◌, ◌≤◌, Bool, true, false, cond, not, List, [], ◌∷◌, ◌++◌, length, get_or, set, ◌⊎◌, inl, inr, ⊎_elim, refl, sym, ap, ◌∙◌, arith}
use Rattle.std.specs.List.{Contains}
use Rattle.std.proofs.lemmas.List.{get_or_past, get_or-set_same, get_or-set_other, set_past, length-set, length_push, set-get_or}
use Rattle.std.proofs.lemmas.List.Elements.{Contains-append_left, Contains-push, Contains-push_cases}
use Rattle.std.proofs.lemmas.List.Sums.{sum_by-set}
use Rattle.std.proofs.lemmas.Bool.{cases_eq, cases_lt, false≢true}
use Rattle.ink_paths.specs.States.{Reach, here, step, IsSeen, seen_after, todo_after, Walks, left}

-- membership by the head
cons_at : {X : Type 0} (x : X) (xs : List X) (y : X) (k : ℕ) → k < length (x ∷ xs) → get_or (x ∷ xs) k y ≡ y → (x ≡ y) ⊎ Contains xs y
cons_at x xs y zero h e = inl e
cons_at x xs y (suc k) h e = inr (k, omega arith, e)

pub cons_cases : {X : Type 0} (x : X) (xs : List X) (y : X) → Contains (x ∷ xs) y → (x ≡ y) ⊎ Contains xs y
cons_cases x xs y c = cons_at x xs y c.0 c.1 c.2

pub cons_head : {X : Type 0} (x : X) (xs : List X) → Contains (x ∷ xs) x
cons_head x xs = (0, omega arith, refl)

pub cons_tail : {X : Type 0} (x : X) (xs : List X) (y : X) → Contains xs y → Contains (x ∷ xs) y
cons_tail x xs y c = (suc c.0, (let h : c.0 < length xs = c.1 in omega arith), c.2)

pub nil_none : {X : Type 0} (y : X) → Contains [] y → ⊥
nil_none y c = let h : c.0 < 0 = c.1 in omega arith

-- one mark
pub seen_set : (seen : List Bool) (t s : ℕ) → IsSeen seen s → IsSeen (set seen t true) s
seen_set seen t s h = ⊎_elim (λ e. ⊎_elim (λ l. rw e (get_or-set_same seen t true false l)) (λ g. rw (set_past seen t true g) h) (cases_lt t (length seen))) (λ ne. rw (get_or-set_other seen t s true false ne) h) (cases_eq s t)

pub seen_cases : (seen : List Bool) (t s : ℕ) → IsSeen (set seen t true) s → (s ≡ t) ⊎ IsSeen seen s
seen_cases seen t s h = ⊎_elim (λ e. inl e) (λ ne. inr (rw (get_or-set_other seen t s true false ne) at h)) (cases_eq s t)

pub seen_below : (seen : List Bool) (s : ℕ) → IsSeen seen s → s < length seen
seen_below seen s h = ⊎_elim (λ l. l) (λ g. absurd (false≢true (sym (get_or_past seen s false g) ∙ h))) (cases_lt s (length seen))

-- what is known while the followers of u are being marked
record Amid (next : ℕ → List ℕ) (start : ℕ) (u : ℕ) (seen : List Bool) (todo : List ℕ) : Type 0 where
  sound : (s : ℕ) → IsSeen seen s → Reach next start s
  waits : (s : ℕ) → Contains todo s → IsSeen seen s
  closed : (s : ℕ) → IsSeen seen s → (s ≡ u) ⊎ (Contains todo s ⊎ ((t : ℕ) → Contains (next s) t → IsSeen seen t))
  begun : IsSeen seen start

module _ (next : ℕ → List ℕ) (start : ℕ) where
  amid_old : (u t : ℕ) (seen : List Bool) (todo : List ℕ) → get_or seen t false ≡ true → Amid next start u seen todo → Amid next start u (set seen t true) todo
  amid_old u t seen todo e a = let same : set seen t true ≡ seen = ap (λ b. set seen t b) (sym e) ∙ set-get_or seen t false in rw same a

  amid_new : (u t : ℕ) (seen : List Bool) (todo : List ℕ) → t < length seen → Reach next start t → Amid next start u seen todo → Amid next start u (set seen t true) (todo ++ t ∷ [])
  amid_new u t seen todo l r a = record {
    sound = λ s h. ⊎_elim (λ e. rw e r) (λ o. a.sound s o) (seen_cases seen t s h);
    waits = λ s c. ⊎_elim (λ o. seen_set seen t s (a.waits s o)) (λ e. rw (← e) (get_or-set_same seen t true false l)) (Contains-push_cases todo t s c);
    closed = λ s h. ⊎_elim (λ e. inr (inl (rw e (Contains-push todo t))))
        (λ o. ⊎_elim (λ e. inl e) (⊎_elim (λ w. inr (inl (Contains-append_left todo (t ∷ []) s w))) (λ f. inr (inr (λ x c. seen_set seen t x (f x c))))) (a.closed s o))
        (seen_cases seen t s h);
    begun = seen_set seen t start a.begun;
  }

  amid_mark : (u t : ℕ) (seen : List Bool) (todo : List ℕ) (b : Bool) → get_or seen t false ≡ b → t < length seen → Reach next start t → Amid next start u seen todo → Amid next start u (set seen t true) (cond b todo (todo ++ t ∷ []))
  amid_mark u t seen todo true e l r a = amid_old u t seen todo e a
  amid_mark u t seen todo false e l r a = amid_new u t seen todo l r a

  amid_marks : (u : ℕ) (ts : List ℕ) (seen : List Bool) (todo : List ℕ) → ((t : ℕ) → Contains ts t → t < length seen) → ((t : ℕ) → Contains ts t → Reach next start t) → Amid next start u seen todo → Amid next start u (seen_after ts seen) (todo_after ts seen todo)
  amid_marks u [] seen todo l r a = a
  amid_marks u (t ∷ ts) seen todo l r a =
      amid_marks u ts (set seen t true) (cond (get_or seen t false) todo (todo ++ t ∷ []))
      (λ x c. rw (length-set seen t true) (l x (cons_tail t ts x c))) (λ x c. r x (cons_tail t ts x c))
      (amid_mark u t seen todo (get_or seen t false) refl (l t (cons_head t ts)) (r t (cons_head t ts)) a)

  seen_after_keeps : (ts : List ℕ) (seen : List Bool) (s : ℕ) → IsSeen seen s → IsSeen (seen_after ts seen) s
  seen_after_keeps [] seen s h = h
  seen_after_keeps (t ∷ ts) seen s h = seen_after_keeps ts (set seen t true) s (seen_set seen t s h)

  seen_after_all : (ts : List ℕ) (seen : List Bool) → ((t : ℕ) → Contains ts t → t < length seen) → (t : ℕ) → Contains ts t → IsSeen (seen_after ts seen) t
  seen_after_all [] seen l t c = absurd (nil_none t c)
  seen_after_all (x ∷ ts) seen l t c =
      ⊎_elim (λ e. seen_after_keeps ts (set seen x true) t (rw (← e) (get_or-set_same seen x true false (l x (cons_head x ts)))))
      (λ o. seen_after_all ts (set seen x true) (λ y d. rw (length-set seen x true) (l y (cons_tail x ts y d))) t o)
      (cons_cases x ts t c)

  pub walks_on : (u : ℕ) (seen : List Bool) (todo : List ℕ) → ((t : ℕ) → Contains (next u) t → t < length seen) → Walks next start seen (todo ++ u ∷ []) → Walks next start (seen_after (next u) seen) (todo_after (next u) seen todo)
  walks_on u seen todo l w =
      let reached : Reach next start u = w.sound u (w.waits u (Contains-push todo u)) in
      let before : Amid next start u seen todo = record {
        sound = w.sound;
        waits = λ s c. w.waits s (Contains-append_left todo (u ∷ []) s c);
        closed = λ s h. ⊎_elim (λ c. ⊎_elim (λ o. inr (inl o)) (λ e. inl (sym e)) (Contains-push_cases todo u s c)) (λ f. inr (inr f)) (w.closed s h);
        begun = w.begun;
      } in
      let a : Amid next start u (seen_after (next u) seen) (todo_after (next u) seen todo) = amid_marks u (next u) seen todo l (λ t c. step reached c) before in
      record {
        sound = a.sound;
        waits = a.waits;
        begun = a.begun;
        closed = λ s h. ⊎_elim (λ e. inr (λ t c. seen_after_all (next u) seen l t (rw e at c))) (λ o. o) (a.closed s h);
      }

  -- at the end the marks are what is reached
  pub all_reached : (seen : List Bool) → Walks next start seen [] → (s : ℕ) → Reach next start s → IsSeen seen s
  all_reached seen w s here = w.begun
  all_reached seen w s (step {a} {b} r c) = ⊎_elim (λ n. absurd (nil_none a n)) (λ f. f b c) (w.closed a (all_reached seen w a r))

-- the start
pub walks_start : (next : ℕ → List ℕ) (start : ℕ) (seen : List Bool) → start < length seen → ((s : ℕ) → get_or seen s false ≡ false) → Walks next start (set seen start true) (start ∷ [])
walks_start next start seen l none = record {
  sound = λ s h. ⊎_elim (λ e. rw e here) (λ o. absurd (false≢true (sym (none s) ∙ o))) (seen_cases seen start s h);
  waits = λ s c. ⊎_elim (λ e. rw (← e) (get_or-set_same seen start true false l)) (λ o. absurd (nil_none s o)) (cons_cases start [] s c);
  closed = λ s h. ⊎_elim (λ e. inl (rw e (cons_head start []))) (λ o. absurd (false≢true (sym (none s) ∙ o))) (seen_cases seen start s h);
  begun = get_or-set_same seen start true false l;
}

-- the measure
pub length-seen_after : (ts : List ℕ) (seen : List Bool) → length (seen_after ts seen) ≡ length seen
length-seen_after [] seen = refl
length-seen_after (t ∷ ts) seen = length-seen_after ts (set seen t true) ∙ length-set seen t true

left_mark : (t : ℕ) (seen : List Bool) (todo : List ℕ) (b : Bool) → get_or seen t false ≡ b → t < length seen → left (set seen t true) (cond b todo (todo ++ t ∷ [])) ≤ left seen todo
left_mark t seen todo true e l = let same : set seen t true ≡ seen = ap (λ b. set seen t b) (sym e) ∙ set-get_or seen t false in rw same (omega arith)
left_mark t seen todo false e l =
    let n = sum_by-set (λ b. cond (not b) 1 0) seen t true false l in
    let m = (rw e at n) in
    omega (arith, m, length_push todo t)

pub left_marks : (ts : List ℕ) (seen : List Bool) (todo : List ℕ) → ((t : ℕ) → Contains ts t → t < length seen) → left (seen_after ts seen) (todo_after ts seen todo) ≤ left seen todo
left_marks [] seen todo l = omega arith
left_marks (t ∷ ts) seen todo l =
    let one = left_mark t seen todo (get_or seen t false) refl (l t (cons_head t ts)) in
    let rest = left_marks ts (set seen t true) (cond (get_or seen t false) todo (todo ++ t ∷ [])) (λ x c. rw (length-set seen t true) (l x (cons_tail t ts x c))) in
    omega (arith, one, rest)
