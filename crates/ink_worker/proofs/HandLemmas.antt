-- What a hand and its leases keep when a process comes home or is taken out.
use Rattle.std.proofs.Common.{◌≡◌, ◌≢◌, ℕ, ◌+◌, ◌<◌, ◌≤◌, cond, eqb, List, [], ◌∷◌, ◌++◌, sym, refl, ap, subst, ◌∙◌, inl, inr, ⊎_elim, arith, zero, suc, append_assoc, length, get_or, set}
use Rattle.std.proofs.lemmas.Bool.{eq-eqb, ne_eqb, cases_eq, cond-true, cond-false}
use Rattle.ink_leasing.specs.Leases.{Lease, Has, Named, Spares, Without, OneMore, Gains, Loses, times}
use Rattle.ink_worker.specs.Hands.{AreRun, Carries, GoesOn, count_of}
use Rattle.ink_worker.specs.declared.held.Held.{Held}

-- one where two numbers are equal, and else none
abbrev counted : ℕ → ℕ → ℕ
counted p q = cond (eqb p q) 1 0

counts_one : (p q : ℕ) → p ≡ q → counted p q ≡ 1
counts_one p q same = cond-true (eqb p q) 1 0 (eq-eqb p q same)

counts_none : (p q : ℕ) → (p ≡ q → ⊥) → counted p q ≡ 0
counts_none p q other = cond-false (eqb p q) 1 0 (ne_eqb p q other)

pub times_append : (p : ℕ) (xs ys : Lease) → times p (xs ++ ys) ≡ times p xs + times p ys
times_append p [] ys = omega arith
times_append p (x ∷ xs) ys = let r = times_append p xs ys in omega arith

-- how often a process is leased after one more is
pub times_gained : (p q : ℕ) (old new : Lease) → Gains p old new → times q new ≡ times q old + cond (eqb p q) 1 0
times_gained p q old new gains =
    let was : times q old ≡ times q (gains.front ++ gains.back) = ap (times q) gains.before in
    let is : times q new ≡ times q (gains.front ++ (p, gains.ran) ∷ gains.back) = ap (times q) gains.after in
    let left = times_append q gains.front gains.back in
    let right = times_append q gains.front ((p, gains.ran) ∷ gains.back) in
    omega arith

pub has_of_times : (p : ℕ) (lease : Lease) → 0 < times p lease → Has p lease
has_of_times p [] some = absurd (omega arith)
has_of_times p (l ∷ ls) some =
    ⊎_elim (λ (same : l.0 ≡ p). inl same)
    (λ (other : l.0 ≡ p → ⊥). let none = counts_none l.0 p other in inr (has_of_times p ls (omega arith)))
    (cases_eq l.0 p)

pub times_of_has : (p : ℕ) (lease : Lease) → Has p lease → 0 < times p lease
times_of_has p [] has = absurd has
times_of_has p (l ∷ ls) has =
    ⊎_elim (λ (same : l.0 ≡ p). let one = counts_one l.0 p same in omega arith)
    (λ (later : Has p ls). let more = times_of_has p ls later in omega arith)
    has

-- a lease in which no process stands is empty
pub none_leased : (lease : Lease) → ((p : ℕ) → 0 ≡ times p lease) → lease ≡ []
none_leased [] none = refl
none_leased (l ∷ ls) none =
    let here = none l.0 in
    let one = counts_one l.0 l.0 refl in
    absurd (omega arith)

-- what a lease spares is without each process of it
pub spared : (p : ℕ) (lease : Lease) (entries : List ℕ) → Has p lease → Spares lease entries → Without p entries
spared p [] entries has spares = absurd has
spared p (l ∷ ls) entries has spares =
    ⊎_elim (λ (same : l.0 ≡ p). subst (λ (q : ℕ). Without q entries) same spares.0)
    (λ (later : Has p ls). spared p ls entries later spares.1)
    has

pub named_append : (lease : Lease) (xs ys : List ℕ) → Named lease xs → Named lease ys → Named lease (xs ++ ys)
named_append lease [] ys front back = back
named_append lease (x ∷ xs) ys front back = (front.0, named_append lease xs ys front.1 back)

-- a journal goes on by one more entry, of a process that was leased at first
pub goes_on : (lease : Lease) (old middle new : List ℕ) (p : ℕ) → GoesOn lease old middle → Has p lease → OneMore p middle new → GoesOn lease old new
goes_on lease old middle new p on has one =
    ⊎_elim (λ (same : new ≡ middle). record { more = on.more; longer = same ∙ on.longer; named = on.named })
    (λ (longer : new ≡ middle ++ p ∷ []). record {
      more = on.more ++ p ∷ [];
      longer = longer ∙ (ap (λ (xs : List ℕ). xs ++ p ∷ []) on.longer ∙ append_assoc old on.more (p ∷ []));
      named = named_append lease on.more (p ∷ []) on.named (has, tt);
    })
    one

module _ {W : Type 0} where
  pub count_append : (p : ℕ) (xs ys : List (Held W)) → count_of p (xs ++ ys) ≡ count_of p xs + count_of p ys
  count_append p [] ys = omega arith
  count_append p (x ∷ xs) ys = let r = count_append p xs ys in omega arith

  pub run_front : (is_run : ℕ → W → Type 0) (xs ys : List (Held W)) → AreRun is_run (xs ++ ys) → AreRun is_run xs
  run_front is_run [] ys all = tt
  run_front is_run (x ∷ xs) ys all = (all.0, run_front is_run xs ys all.1)

  pub run_back : (is_run : ℕ → W → Type 0) (xs ys : List (Held W)) → AreRun is_run (xs ++ ys) → AreRun is_run ys
  run_back is_run [] ys all = all
  run_back is_run (x ∷ xs) ys all = run_back is_run xs ys all.1

  pub run_append : (is_run : ℕ → W → Type 0) (xs ys : List (Held W)) → AreRun is_run xs → AreRun is_run ys → AreRun is_run (xs ++ ys)
  run_append is_run [] ys front back = back
  run_append is_run (x ∷ xs) ys front back = (front.0, run_append is_run xs ys front.1 back)

  -- what holds of each process in hand goes over from one meaning to another
  pub run_over : (is_run is_run' : ℕ → W → Type 0) (hand : List (Held W)) → ((p : ℕ) (w : W) → 0 < count_of p hand → is_run p w → is_run' p w) → AreRun is_run hand → AreRun is_run' hand
  run_over is_run is_run' [] over all = tt
  run_over is_run is_run' (h ∷ hand) over all =
      let one = counts_one h.process h.process refl in (
        over h.process h.work (omega arith) all.0,
        run_over is_run is_run' hand (λ p w some. over p w (omega arith)) all.1,
      )

  -- the last of a hand comes home
  pub came_home : (old new : Lease) (is_run is_run' : ℕ → W → Type 0) (hand : List (Held W)) (last : Held W) → Carries old is_run (hand ++ last ∷ []) → times last.process old ≤ 1 → Loses last.process old new
      → ((p : ℕ) (w : W) → p ≢ last.process → is_run p w → is_run' p w) → Carries new is_run' hand
  came_home old new is_run is_run' hand last carries once loses over = record {
    same = λ p. let all = carries.same p in let parts = count_append p hand (last ∷ []) in let less = times_gained last.process p new old loses in omega arith;
    run = run_over is_run is_run' hand
        (λ p w some. over p w (λ (same : p ≡ last.process).
        let all = carries.same last.process in
        let parts = count_append last.process hand (last ∷ []) in
        let one = counts_one last.process last.process refl in
        let some' : 0 < count_of last.process hand = subst (λ (q : ℕ). 0 < count_of q hand) same some in
        omega arith))
        (run_front is_run hand (last ∷ []) carries.run);
  }

  -- the last of a hand is leased
  pub last_leased : (lease : Lease) (is_run : ℕ → W → Type 0) (hand : List (Held W)) (last : Held W) → Carries lease is_run (hand ++ last ∷ []) → Has last.process lease
  last_leased lease is_run hand last carries =
      let all = carries.same last.process in
      let parts = count_append last.process hand (last ∷ []) in
      let one = counts_one last.process last.process refl in
      has_of_times last.process lease (omega arith)

  pub last_run : (lease : Lease) (is_run : ℕ → W → Type 0) (hand : List (Held W)) (last : Held W) → Carries lease is_run (hand ++ last ∷ []) → is_run last.process last.work
  last_run lease is_run hand last carries = (run_back is_run hand (last ∷ []) carries.run).0

  -- a process is taken out and put behind the others
  pub taken_out : (old new : Lease) (is_run : ℕ → W → Type 0) (hand : List (Held W)) (process : ℕ) (work : W) → Carries old is_run hand → Gains process old new → is_run process work → Carries new is_run (hand ++ record { process = process; work = work } ∷ [])
  taken_out old new is_run hand process work carries gains run = record {
    same = λ p. let all = carries.same p in let parts = count_append p hand (record { process = process; work = work } ∷ []) in let more = times_gained process p old new gains in omega arith;
    run = run_append is_run hand (record { process = process; work = work } ∷ []) carries.run (run, tt);
  }

  -- a hand with nothing in it has no lease
  pub empty_hand : (lease : Lease) (is_run : ℕ → W → Type 0) → Carries lease is_run [] → lease ≡ []
  empty_hand lease is_run carries = none_leased lease carries.same

  pub count_set : (p : ℕ) (hand : List (Held W)) (i : ℕ) (held d : Held W) → i < length hand → held.process ≡ (get_or hand i d).process → count_of p (set hand i held) ≡ count_of p hand
  count_set p [] i held d small same = absurd (omega arith)
  count_set p (h ∷ hand) zero held d small same = ap (λ (q : ℕ). cond (eqb q p) 1 0 + count_of p hand) same
  count_set p (h ∷ hand) (suc i) held d small same = let r = count_set p hand i held d (omega arith) same in omega arith

  pub run_set : (is_run : ℕ → W → Type 0) (hand : List (Held W)) (i : ℕ) (held : Held W) → is_run held.process held.work → AreRun is_run hand → AreRun is_run (set hand i held)
  run_set is_run [] i held run all = tt
  run_set is_run (h ∷ hand) zero held run all = (run, all.1)
  run_set is_run (h ∷ hand) (suc i) held run all = (all.0, run_set is_run hand i held run all.1)

  pub run_at : (is_run : ℕ → W → Type 0) (hand : List (Held W)) (i : ℕ) (d : Held W) → i < length hand → AreRun is_run hand → is_run (get_or hand i d).process (get_or hand i d).work
  run_at is_run [] i d small all = absurd (omega arith)
  run_at is_run (h ∷ hand) zero d small all = all.0
  run_at is_run (h ∷ hand) (suc i) d small all = run_at is_run hand i d (omega arith) all.1

  -- a process in hand runs on
  pub carries_set : (lease : Lease) (is_run : ℕ → W → Type 0) (hand : List (Held W)) (i : ℕ) (held d : Held W) → i < length hand → held.process ≡ (get_or hand i d).process
      → (is_run (get_or hand i d).process (get_or hand i d).work → is_run (get_or hand i d).process held.work) → Carries lease is_run hand → Carries lease is_run (set hand i held)
  carries_set lease is_run hand i held d small same over carries = record {
    same = λ p. count_set p hand i held d small same ∙ carries.same p;
    run = run_set is_run hand i held (subst (λ (q : ℕ). is_run q held.work) (sym same) (over (run_at is_run hand i d small carries.run))) carries.run;
  }
