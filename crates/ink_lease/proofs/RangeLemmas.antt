-- Ranges of seat numbers that are cut and joined, and the leases of their first numbers.
use Rattle.std.proofs.Common.{◌≡◌, ◌≢◌, ℕ, ◌+◌, ◌<◌, ◌≤◌, List, [], ◌∷◌, ◌++◌, set, sym, refl, ap, ◌∙◌, subst, ⊎_elim, inl, inr, arith}
use mathlib.Core.Option.{some}
use mathlib.Core.Logic.{dite}
use native.Mathlib.Decide.{ℕ_discrete}
use lib.ListN.{get_elem?}
use Rattle.atomic_table.proofs.Lists.{set_else, at_longer}
use Rattle.ink_leasing.specs.Leases.{Lease}
use Rattle.ink_lease.specs.Ranges.{Range, Clear, Pairs, FirstOnly}
use Rattle.ink_lease.proofs.Places.{one_there, at_here, set_swap, all_set, pairs_set, pairs_snoc}

pub clear_turn : (a b : Range) → Clear a b → Clear b a
clear_turn a b c lb la = ⊎_elim (λ x. inr x) (λ x. inl x) (c la lb)

pub split_ranges : (rs : List Range) (i a b : ℕ) → get_elem? rs i ≡ some (a, b) → a < b → Pairs Clear rs → Pairs Clear (set rs i (a, a) ++ (a + 1, b) ∷ [])
split_ranges rs i a b at wide old =
    pairs_snoc Clear clear_turn (set rs i (a, a)) (a + 1, b)
    (pairs_set Clear clear_turn rs i (a, a) old (λ j x n e _ lx.
    ⊎_elim (λ (p : b < x.0). inl (omega arith)) (λ (p : x.1 < a). inr p) (old i j (a, b) x at e (λ m. n (sym m)) (omega arith) lx)))
    (all_set (λ j x. Clear (a + 1, b) x) rs i (a, a) (λ _ _. inr (omega arith)) (λ j x n e _ lx.
    ⊎_elim (λ (p : b < x.0). inl p) (λ (p : x.1 < a). inr (omega arith)) (old i j (a, b) x at e (λ m. n (sym m)) (omega arith) lx)))

pub join_ranges : (rs : List Range) (i k : ℕ) (v w : Range) → get_elem? rs i ≡ some v → get_elem? rs k ≡ some w → k ≢ i → v.0 ≤ v.1 → w.0 ≤ w.1 → v.1 + 1 ≡ w.0 → Pairs Clear rs
    → Pairs Clear (set (set rs i (v.0, w.1)) k (1, 0))
join_ranges rs i k v w at there apart lv lw next old =
    subst (Pairs Clear) (sym (set_swap rs i k (v.0, w.1) (1, 0) (λ e. apart (sym e))))
    (pairs_set Clear clear_turn (set rs k (1, 0)) i (v.0, w.1)
    (pairs_set Clear clear_turn rs k (1, 0) old (λ j x n e l. absurd (omega arith)))
    (λ j x n e. all_set (λ j x. j ≢ i → Clear (v.0, w.1) x) rs k (1, 0) (λ _ _ l. absurd (omega arith))
    (λ j x m f n _ lx. ⊎_elim
    (λ (p : v.1 < x.0). ⊎_elim (λ (q : w.1 < x.0). inl q) (λ (q : x.1 < w.0). absurd (omega arith)) (old k j w x there f (λ z. m (sym z)) lw lx))
    (λ (p : x.1 < v.0). inr p)
    (old i j v x at f (λ z. n (sym z)) lv lx))
    j x e n))

module _ (lease : ℕ → Lease) where
  pub first_set : (rs : List Range) (i : ℕ) (x w : Range) → get_elem? rs i ≡ some x → w.0 ≡ x.0 → w.0 ≤ w.1 → FirstOnly lease rs → FirstOnly lease (set rs i w)
  first_set rs i x w at same live old k e = let f = old k e in
      dite (ℕ_discrete f.0 i)
      (λ is. let r_is : f.1 ≡ x = one_there rs i f.1 x (subst (λ j. get_elem? rs j ≡ some f.1) is f.2) at in (i, w, at_here rs i x w at, live, same ∙ sym (ap (λ (r : Range). r.0) r_is) ∙ f.4))
      (λ ne. (f.0, f.1, set_else rs i f.0 w ne ∙ f.2, f.3, f.4))

  pub first_snoc : (rs : List Range) (w : Range) → FirstOnly lease rs → FirstOnly lease (rs ++ w ∷ [])
  first_snoc rs w old k e = let f = old k e in (f.0, f.1, at_longer rs (w ∷ []) f.0 f.1 f.2, f.3, f.4)

  -- a range goes whose first number has no lease
  pub first_gone : (rs : List Range) (i : ℕ) (x w : Range) → get_elem? rs i ≡ some x → lease x.0 ≡ [] → FirstOnly lease rs → FirstOnly lease (set rs i w)
  first_gone rs i x w at none old k e = let f = old k e in
      dite (ℕ_discrete f.0 i)
      (λ is. let r_is : f.1 ≡ x = one_there rs i f.1 x (subst (λ j. get_elem? rs j ≡ some f.1) is f.2) at in
      absurd (e (sym (ap lease (sym (ap (λ (r : Range). r.0) r_is) ∙ f.4)) ∙ none)))
      (λ ne. (f.0, f.1, set_else rs i f.0 w ne ∙ f.2, f.3, f.4))

  none_if : (o : Lease) → ((o ≢ []) → ⊥) → o ≡ []
  none_if [] h = refl
  none_if (l ∷ ls) h = absurd (h (λ e. cc))

  -- no number of a range has a lease but its first
  pub unleased : (rs : List Range) (i : ℕ) (x : Range) → get_elem? rs i ≡ some x → x.0 ≤ x.1 → FirstOnly lease rs → Pairs Clear rs → (k : ℕ) → x.0 < k → k ≤ x.1 → lease k ≡ []
  unleased rs i x at live first clear k more less = none_if (lease k) (λ e. let f = first k e in let lr : f.1.0 ≤ f.1.1 = f.3 in let is_k : f.1.0 ≡ k = f.4 in
      dite (ℕ_discrete f.0 i)
      (λ is. let r_is = one_there rs i f.1 x (subst (λ j. get_elem? rs j ≡ some f.1) is f.2) at in let z : f.1.0 ≡ x.0 = ap (λ (r : Range). r.0) r_is in omega arith)
      (λ ne. ⊎_elim (λ (p : x.1 < f.1.0). omega arith) (λ (p : f.1.1 < x.0). omega arith) (clear i f.0 x f.1 at f.2 (λ z. ne (sym z)) live lr)))

  -- where one range has all numbers, no other number has a lease
  pub alone_unleased : (rs : List Range) (i : ℕ) (x : Range) (n : ℕ) → get_elem? rs i ≡ some x → x.0 ≡ 1 → x.1 ≡ n → x.0 ≤ x.1 → lease 1 ≡ [] → ((j : ℕ) (r : Range) → get_elem? rs j ≡ some r → r.0 ≤ r.1 → (1 ≤ r.0) × (r.1 ≤ n)) → FirstOnly lease rs → Pairs Clear rs
      → (k : ℕ) → lease k ≡ []
  alone_unleased rs i x n at one all live none within first clear k = none_if (lease k) (λ e. let f = first k e in let lr : f.1.0 ≤ f.1.1 = f.3 in let is_k : f.1.0 ≡ k = f.4 in let inside = within f.0 f.1 f.2 f.3 in
      let low : 1 ≤ f.1.0 = inside.0 in let high : f.1.1 ≤ n = inside.1 in
      dite (ℕ_discrete f.0 i)
      (λ is. let r_is = one_there rs i f.1 x (subst (λ j. get_elem? rs j ≡ some f.1) is f.2) at in let z : f.1.0 ≡ x.0 = ap (λ (r : Range). r.0) r_is in let k1 : 1 ≡ k = omega arith in
      e (sym (ap lease k1) ∙ none))
      (λ ne. ⊎_elim (λ (p : x.1 < f.1.0). omega arith) (λ (p : f.1.1 < x.0). omega arith) (clear i f.0 x f.1 at f.2 (λ z. ne (sym z)) live lr)))
