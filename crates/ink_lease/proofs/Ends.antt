-- The rule at the start, and what it says at the end.
use Rattle.std.proofs.Common.{◌≡◌, ◌≢◌, ℕ, zero, suc, ◌<◌, ◌≤◌, List, [], ◌∷◌, map, sym, refl, ap, ◌∙◌, subst, ⊎_elim, inl, arith, append-nil, Option, Some, None}
use mathlib.Core.Option as maybe
use lib.ListN.{get_elem?}
use Rattle.atomic_table.specs.Table.{State, opening, Final, Seen}
use Rattle.atomic_table.proofs.Lists.{at_map}
use Rattle.ink_leasing.specs.Leases.{Lease}
use Rattle.ink_lease.specs.declared.view.View.{View}
use Rattle.ink_lease.specs.Ranges.{Range}
use Rattle.ink_lease.specs.Rule.{range, Live, first_view, Free, Taken, Fits, Kept, Took}
use Rattle.ink_lease.proofs.Places.{all_snoc, map_at}
use Rattle.ink_lease.proofs.RangeLemmas.{alone_unleased}
use Rattle.ink_lease.proofs.Seats.{not_holder, learned}

module _ {S F : Type 0} (lease : S → ℕ → Lease) (journal : S → List ℕ) (stands : S → F → Type 0) where
  abbrev V : Type 0
  V = View S F

  abbrev St : Type 0
  St = State (Option S) V

  abbrev Rule : St → Type 0
  Rule = Kept lease journal stands

  abbrev Fit : F → ℕ → S → V → Type 0
  Fit = Fits lease journal stands

  only_place : (x : Range) (i : ℕ) (a : Range) → get_elem? (x ∷ []) i ≡ maybe.some a → i ≡ 0
  only_place x zero a e = refl
  only_place x (suc i) a e = absurd (maybe.some-ne-none a (sym e))

  pub starts : (x : S) (part : F) (seats : ℕ) → 1 ≤ seats → stands x part → ((k : ℕ) → lease x k ≡ []) → Rule (opening (0 ∷ []) (Some x ∷ []) (first_view seats part (journal x)))
  starts x part seats some_seats ok none = let v : V = first_view seats part (journal x) in record {
    base = x;
    part = part;
    seats = seats;
    standing = ok;
    place = inl (refl, refl, all_snoc (λ j u. u.held ≡ None) [] v refl (λ j u e. absurd (maybe.some-ne-none u (sym e))));
    each = all_snoc (λ j u. Live u → Fit part seats x u) [] v
        (λ _. record { leased = sym (none 1); since = ([], sym (append-nil (journal x)), tt); part_is = refl; seats_are = refl; first = omega arith; last = omega arith })
        (λ j u e. absurd (maybe.some-ne-none u (sym e)));
    ranges = λ i j a b e f ne. absurd (ne (only_place (1, seats) i a e ∙ sym (only_place (1, seats) j b f)));
    first_only = λ k e. absurd (e (none k));
  }

  within : (s : St) (r : Rule s) (j : ℕ) (x : Range) → get_elem? (map range s.views) j ≡ maybe.some x → x.0 ≤ x.1 → (1 ≤ x.0) × (x.1 ≤ r.seats)
  within s r j x e live = let m = map_at range s.views j x e in let f = r.each j m.0 m.1 (subst (λ (p : Range). p.0 ≤ p.1) (sym m.2) live) in
      subst (λ (p : Range). (1 ≤ p.0) × (p.1 ≤ r.seats)) m.2 (f.first, f.last)

  pub closes : (id : ℕ) (v : V) → v.from ≡ 1 → v.to ≡ v.seats → v.from ≤ v.to → v.held ≡ None → v.lease ≡ [] → (ws : List ℕ) (xs : List (Option S)) → Final (Seen Rule id v) ws xs
      → (x : S) × (get_elem? xs 0 ≡ maybe.some (Some x)) × Took lease journal stands v x × ((k : ℕ) → lease x k ≡ [])
  closes id v one all live idle none ws xs last =
      let s : St = last.0 in let r : Rule s = last.1.0 in let at : get_elem? s.views id ≡ maybe.some v = last.1.1 in let f = r.each id v at live in
      let all' : v.to ≡ r.seats = all ∙ f.seats_are in let e1 : lease r.base 1 ≡ v.lease = ap (lease r.base) (sym one) ∙ sym f.leased in ⊎_elim
      (λ (h : Free s.words s.homes s.views r.base). (
        r.base,
        last.4 0 (Some r.base) (ap (λ hs. get_elem? hs 0) h.1),
        learned lease journal stands r.part r.seats r.base v r.standing f,
        alone_unleased (lease r.base) (map range s.views) id (range v) r.seats (at_map range s.views id v at) one all' live (e1 ∙ none) (within s r) r.first_only r.ranges,
      ))
      (λ (t : Taken s.words s.homes s.views r.base). let g = r.each t.holder t.view t.there t.live in let low : 1 ≤ t.view.from = g.first in let high : t.view.to ≤ r.seats = g.last in let lt : t.view.from ≤ t.view.to = t.live in
      let ne : t.holder ≢ id = not_holder lease journal stands s.words s.homes s.views r.base t id v at idle in
      absurd (⊎_elim (λ (p : v.to < t.view.from). omega arith) (λ (p : t.view.to < v.from). omega arith)
      (r.ranges id t.holder (range v) (range t.view) (at_map range s.views id v at) (at_map range s.views t.holder t.view t.there) (λ e. ne (sym e)) live t.live)))
      r.place

  pub starts_at : (fixed : S → F) (x y : S) (items : List (Option S)) (seats : ℕ) → items ≡ Some x ∷ [] → y ≡ x → 1 ≤ seats → stands x (fixed x) → ((k : ℕ) → lease x k ≡ [])
      → Rule (opening (0 ∷ []) items (first_view seats (fixed y) (journal y)))
  starts_at fixed x y items seats e same some_seats ok none =
      subst (λ (q : List (Option S)). Rule (opening (0 ∷ []) q (first_view seats (fixed y) (journal y)))) (sym e)
      (subst (λ (q : S). Rule (opening (0 ∷ []) (Some x ∷ []) (first_view seats (fixed q) (journal q)))) (sym same) (starts x (fixed x) seats some_seats ok none))

  pub closed : (id : ℕ) (v : V) → v.from ≡ 1 → v.to ≡ v.seats → v.from ≤ v.to → v.held ≡ None → v.lease ≡ [] → (ws : List ℕ) (xs : List (Option S)) → Final (Seen Rule id v) ws xs
      → (slot : Option S) → get_elem? xs 0 ≡ maybe.some slot → (x : S) × (slot ≡ Some x) × Took lease journal stands v x × ((k : ℕ) → lease x k ≡ [])
  closed id v one all live idle none ws xs last slot at = let c = closes id v one all live idle none ws xs last in
      (c.0, maybe.some-injective slot (Some c.0) (sym at ∙ c.1), c.2, c.3)
