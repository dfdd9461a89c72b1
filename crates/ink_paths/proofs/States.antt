-- A numbered state is reached exactly where a path comes to its point in that state of the variable.
use Rattle.std.proofs.Common.{◌≡◌, ℕ, zero, suc, ◌+◌, ◌*◌, ◌/◌, ◌%◌, ◌<◌, Bool, true, false, eqb, List, [], ◌∷◌, ◌++◌, length, get_or, set, replicate, cond, ⊎_elim, ◌↔◌, refl, sym, ap, ◌∙◌, subst, arith}
use Rattle.std.specs.List.{Contains}
use Rattle.std.proofs.lemmas.List.{get_or_default, length_push, length-replicate, length-set, get_or-replicate, get_or_past}
use Rattle.std.proofs.lemmas.List.Elements.{Contains-push}
use Rattle.std.proofs.lemmas.Bool.{cases_lt}
use Rattle.ink_paths.specs.declared.flow.Point.{Point}
use Rattle.ink_paths.specs.declared.flow.Point.TheVariants.{Then, Fork, Stop}
use Rattle.ink_paths.specs.Paths.{after, nexts, IsWithin, AreWithin, point_at, IsPath, begins, follows, behind, is_moved, Arrives}
use Rattle.ink_paths.specs.States.{bit, state, point_states, next_states, Reach, here, step, seen_after, todo_after, Walks, left}
use Rattle.ink_paths.proofs.Walk.{cons_cases, cons_head, cons_tail, nil_none, seen_below, walks_on, walks_start, left_marks, all_reached, length-seen_after}

pub half : (n : ℕ) (b : Bool) → state n b / 2 ≡ n
half n true = omega arith
half n false = omega arith

pub odd : (n : ℕ) (b : Bool) → eqb (state n b % 2) 1 ≡ b
odd n true = let e : (2 * n + 1) % 2 ≡ 1 = omega arith in rw e refl
odd n false = let e : (2 * n + 0) % 2 ≡ 0 = omega arith in rw e refl

same_node : (m : ℕ) (a : Bool) (n : ℕ) (b : Bool) → state m a ≡ state n b → m ≡ n
same_node m a n b e = sym (half m a) ∙ (ap (λ s. s / 2) e ∙ half n b)

same_state : (m : ℕ) (a : Bool) (n : ℕ) (b : Bool) → state m a ≡ state n b → a ≡ b
same_state m a n b e = sym (odd m a) ∙ (ap (λ s. eqb (s % 2) 1) e ∙ odd n b)

below_two : (r : ℕ) → r < 2 → bit (eqb r 1) ≡ r
below_two zero h = refl
below_two (suc zero) h = refl
below_two (suc (suc r)) h = absurd (omega arith)

pub whole : (s : ℕ) → state (s / 2) (eqb (s % 2) 1) ≡ s
whole s = let h : s % 2 < 2 = omega arith in rw (below_two (s % 2) h) (omega arith)

at_node : (a : ℕ) (m : Bool) (n : ℕ) (b : Bool) (ns : List ℕ) → Contains ns a → state a m ≡ state n b → Contains ns n × (m ≡ b)
at_node a m n b ns c e = (subst (λ k. Contains ns k) (same_node a m n b e) c, same_state a m n b e)

forth : (point : Point) (x : ℕ) (m : Bool) (s n : ℕ) (b : Bool) → Contains (point_states point x m) s → s ≡ state n b → Contains (nexts point) n × (behind point x m ≡ b)
forth (Then e i a) x m s n b c q =
    ⊎_elim (λ h. at_node a (after e x m) n b (a ∷ []) (cons_head a []) (h ∙ q))
    (λ o. absurd (nil_none s o)) (cons_cases (state a (after e x m)) [] s c)
forth (Fork a d) x m s n b c q =
    ⊎_elim (λ h. at_node a m n b (a ∷ (d ∷ [])) (cons_head a (d ∷ [])) (h ∙ q))
    (λ o. ⊎_elim (λ h. at_node d m n b (a ∷ (d ∷ [])) (cons_tail a (d ∷ []) d (cons_head d [])) (h ∙ q)) (λ w. absurd (nil_none s w)) (cons_cases (state d m) [] s o))
    (cons_cases (state a m) (state d m ∷ []) s c)
forth Stop x m s n b c q = absurd (nil_none s c)

back : (point : Point) (x : ℕ) (m : Bool) (n : ℕ) → Contains (nexts point) n → Contains (point_states point x m) (state n (behind point x m))
back (Then e i a) x m n c = ⊎_elim (λ h. rw (← h) (cons_head (state a (after e x m)) [])) (λ o. absurd (nil_none n o)) (cons_cases a [] n c)
back (Fork a d) x m n c =
    ⊎_elim (λ h. rw (← h) (cons_head (state a m) (state d m ∷ [])))
    (λ o. ⊎_elim (λ h. rw (← h) (cons_tail (state a m) (state d m ∷ []) (state d m) (cons_head (state d m) []))) (λ w. absurd (nil_none n w)) (cons_cases d [] n o))
    (cons_cases a (d ∷ []) n c)
back Stop x m n c = absurd (nil_none n c)

module _ (flow : List Point) (start x : ℕ) where
  arrives_from : (s : ℕ) → Reach (next_states flow x) (state start false) s → (n : ℕ) (b : Bool) → s ≡ state n b → Arrives flow start x n b
  arrives_from s here n b q =
      let i : start ≡ n = same_node start false n b q in
      ([], (rw i begins), same_state start false n b q)
  arrives_from s (step {a} {b} r c) n m q =
      let before = arrives_from a r (a / 2) (eqb (a % 2) 1) (sym (whole a)) in
      let out = forth (point_at flow (a / 2)) x (eqb (a % 2) 1) b n m c q in
      ((a / 2) ∷ before.0, follows before.1 out.0, rw before.2 out.1)

  Top : List ℕ → Type 0
  Top [] = Unit {0}
  Top (n ∷ p) = Reach (next_states flow x) (state start false) (state n (is_moved flow x p))

  reach_along : (q : List ℕ) → IsPath flow start q → Top q
  unfolding Top
  reach_along q begins = here
  reach_along q (follows {a} {b} {p} r c) =
      let m : Bool = is_moved flow x p in
      let on : Contains (point_states (point_at flow a) x m) (state b (behind (point_at flow a) x m)) = back (point_at flow a) x m b c in
      let same : next_states flow x (state a m) ≡ point_states (point_at flow a) x m = ap (λ i. point_states (point_at flow i) x (eqb (state a m % 2) 1)) (half a m) ∙ ap (λ k. point_states (point_at flow a) x k) (odd a m) in
      step (reach_along (a ∷ p) r) (rw same on)

  pub reach_arrives : (n : ℕ) (b : Bool) → Reach (next_states flow x) (state start false) (state n b) → Arrives flow start x n b
  reach_arrives n b r = arrives_from (state n b) r n b refl

  pub arrives_reach : (n : ℕ) (b : Bool) → Arrives flow start x n b → Reach (next_states flow x) (state start false) (state n b)
  unfolding Top
  arrives_reach n b a = rw (← a.2) (reach_along (n ∷ a.0) a.1)

pub bit_below : (a : ℕ) (b : Bool) (len : ℕ) → a < len → state a b < 2 * len
bit_below a true len h = omega arith
bit_below a false len h = omega arith

within_states : (len : ℕ) (point : Point) (x : ℕ) (m : Bool) → IsWithin len point → (t : ℕ) → Contains (point_states point x m) t → t < 2 * len
within_states len (Then e i a) x m w t c = ⊎_elim (λ h. rw (← h) (bit_below a (after e x m) len w)) (λ o. absurd (nil_none t o)) (cons_cases (state a (after e x m)) [] t c)
within_states len (Fork a d) x m w t c = ⊎_elim (λ h. rw (← h) (bit_below a m len w.0)) (λ o. ⊎_elim (λ h. rw (← h) (bit_below d m len w.1)) (λ v. absurd (nil_none t v)) (cons_cases (state d m) [] t o)) (cons_cases (state a m) (state d m ∷ []) t c)
within_states len Stop x m w t c = absurd (nil_none t c)

pub next_within : (flow : List Point) (x s len : ℕ) → AreWithin flow → len ≡ length flow → s / 2 < len → (t : ℕ) → Contains (next_states flow x s) t → t < 2 * len
next_within flow x s len w e h t c = rw e (within_states (length flow) (point_at flow (s / 2)) x (eqb (s % 2) 1) (w (s / 2) Stop (rw e at h)) t c)

replicate_none : (n s : ℕ) → get_or (replicate n false) s false ≡ false
replicate_none n s = ⊎_elim (λ l. get_or-replicate n s false false l) (λ g. get_or_past (replicate n false) s false (rw (length-replicate n false) g)) (cases_lt s n)

-- the facts of one turn of the work list
module _ (flow : List Point) (start x s : ℕ) (seen : List Bool) (all todo : List ℕ) (range : AreWithin flow) (size : length seen ≡ 2 * length flow)
    (w : Walks (next_states flow x) (state start false) seen all) (e : all ≡ todo ++ s ∷ []) where
  pub in_seen : s / 2 < length flow
  in_seen = let h : s < length seen = seen_below seen s (w.waits s (rw e (Contains-push todo s))) in omega arith

  next_seen : (t : ℕ) → Contains (next_states flow x s) t → t < length seen
  next_seen t c = rw size (next_within flow x s (length flow) range refl in_seen t c)

  same_next : (d : Point) → point_states (get_or flow (s / 2) d) x (eqb (s % 2) 1) ≡ next_states flow x s
  same_next d = ap (λ n. point_states n x (eqb (s % 2) 1)) (get_or_default flow (s / 2) d Stop in_seen)

  pub turn : (d : Point) (seen' : List Bool) (todo' : List ℕ) → seen' ≡ seen_after (point_states (get_or flow (s / 2) d) x (eqb (s % 2) 1)) seen → todo' ≡ todo_after (point_states (get_or flow (s / 2) d) x (eqb (s % 2) 1)) seen todo → Walks (next_states flow x) (state start false) seen' todo'
  turn d seen' todo' p q = rw (p, q, same_next d) (walks_on (next_states flow x) (state start false) s seen todo next_seen (rw e at w))

  pub falls : (d : Point) (seen' : List Bool) (todo' : List ℕ) → seen' ≡ seen_after (point_states (get_or flow (s / 2) d) x (eqb (s % 2) 1)) seen → todo' ≡ todo_after (point_states (get_or flow (s / 2) d) x (eqb (s % 2) 1)) seen todo → left seen' todo' < left seen all
  falls d seen' todo' p q = rw (p, q, same_next d, e) (let h = left_marks (next_states flow x s) seen todo next_seen in omega (arith, h, length_push todo s))

pub at_end : (flow : List Point) (start x : ℕ) (seen : List Bool) (todo rest : List ℕ) → Walks (next_states flow x) (state start false) seen todo → todo ≡ rest ++ [] → length rest ≡ 0 → (n : ℕ) (b : Bool) → (get_or seen (state n b) false ≡ true) ↔ Arrives flow start x n b
at_end flow start x seen todo [] w e h n b = (λ i. reach_arrives flow start x n b (w.sound (state n b) i), λ a. all_reached (next_states flow x) (state start false) seen (rw e at w) (state n b) (arrives_reach flow start x n b a))
at_end flow start x seen todo (t ∷ ts) w e h n b = absurd (omega arith)

pub at_start : (flow : List Point) (start x : ℕ) (seen : List Bool) (seen' : List Bool) (todo' : List ℕ) → start < length flow → seen ≡ replicate (2 * length flow) false → seen' ≡ set seen (state start false) true → todo' ≡ cond (get_or seen (state start false) false) [] ([] ++ state start false ∷ []) → (length seen' ≡ 2 * length flow) × Walks (next_states flow x) (state start false) seen' todo'
at_start flow start x seen seen' todo' h e p q =
    let len : length seen ≡ 2 * length flow = rw e (length-replicate (2 * length flow) false) in
    let none : (s : ℕ) → get_or seen s false ≡ false = λ s. rw e (replicate_none (2 * length flow) s) in
    let r : todo' ≡ state start false ∷ [] = q ∙ ap (λ b. cond b [] (state start false ∷ [])) (none (state start false)) in
    (rw (p, length-set seen (state start false) true) len, rw (p, r) (walks_start (next_states flow x) (state start false) seen (rw len (bit_below start false (length flow) h)) none))

pub turn_size : (flow : List Point) (start x s : ℕ) (seen : List Bool) (d : Point) (seen' : List Bool) → length seen ≡ 2 * length flow → seen' ≡ seen_after (point_states (get_or flow (s / 2) d) x (eqb (s % 2) 1)) seen → length seen' ≡ 2 * length flow
turn_size flow start x s seen d seen' size p = rw p (length-seen_after (point_states (get_or flow (s / 2) d) x (eqb (s % 2) 1)) seen ∙ size)
