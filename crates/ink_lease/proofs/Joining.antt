-- Two passes that become one keep the rule.
use Rattle.std.proofs.Common.{◌≡◌, ◌≢◌, ℕ, ◌+◌, ◌≤◌, Bool, true, false, cond, leb, List, [], ◌++◌, map, length, set, sym, refl, ap, ◌∙◌, subst, ⊎_elim, inl, inr, arith, Option, None}
use mathlib.Core.Option as maybe
use lib.ListN.{get_elem?}
use lib.Seq.{map-set}
use Rattle.atomic_table.specs.Table.{State, Joins}
use Rattle.atomic_table.proofs.Lists.{set_else, at_map}
use Rattle.ink_leasing.specs.Leases.{Lease, Spares}
use Rattle.ink_lease.specs.declared.view.View.{View}
use Rattle.ink_lease.specs.Ranges.{Clear, Pairs, FirstOnly}
use Rattle.ink_lease.specs.Rule.{Since, range, Live, both, spent, Free, Taken, Fits, Kept}
use Rattle.ink_lease.proofs.Places.{all_set}
use Rattle.ink_lease.proofs.RangeLemmas.{join_ranges, first_set, first_gone}
use Rattle.ink_lease.proofs.Seats.{not_holder}

module _ {S F : Type 0} (lease : S → ℕ → Lease) (journal : S → List ℕ) (stands : S → F → Type 0) where
  abbrev V : Type 0
  V = View S F

  abbrev St : Type 0
  St = State (Option S) V

  abbrev Rule : St → Type 0
  Rule = Kept lease journal stands

  abbrev Fit : F → ℕ → S → V → Type 0
  Fit = Fits lease journal stands

  since_longer : (b : Bool) (x y : List ℕ) (lx : Lease) (js : List ℕ) → lx ≡ [] → Since x lx js → (rest : List ℕ) × (js ≡ y ++ rest) → Since (cond b y x) lx js
  since_longer true x y lx js none a c = (c.0, c.1, subst (λ l. Spares l c.0) (sym none) tt)
  since_longer false x y lx js none a c = a

  pub joins : (id : ℕ) (v : V) (other : ℕ) (w : V) → v.held ≡ None → w.held ≡ None → v.lease ≡ [] → w.lease ≡ [] → v.from ≤ v.to → w.from ≤ w.to → v.to + 1 ≡ w.from → Joins Rule id v other w (both v w) spent
  joins id v other w idle idle' none none' lv lw next s r at apart there =
      let b : V = both v w in let vs : List V = set s.views id b in let was : get_elem? s.views other ≡ maybe.some w = sym (set_else s.views id other b apart) ∙ there in
      let f = r.each id v at lv in let g = r.each other w was lw in
      let at_v = at_map range s.views id v at in let at_w = at_map range s.views other w was in
      let rs : map range (set vs other spent) ≡ set (set (map range s.views) id (v.from, w.to)) other (1, 0) = map-set range vs other spent ∙ ap (λ l. set l other (1, 0)) (map-set range s.views id b) in
      let at_w' : get_elem? (set (map range s.views) id (v.from, w.to)) other ≡ maybe.some (range w) = set_else (map range s.views) id other (v.from, w.to) apart ∙ at_w in record {
        base = r.base;
        part = r.part;
        seats = r.seats;
        standing = r.standing;
        place = ⊎_elim
            (λ (h : Free s.words s.homes s.views r.base). inl (h.0, h.1, all_set (λ j u. u.held ≡ None) vs other spent refl (λ j u _ e. all_set (λ j u. u.held ≡ None) s.views id b idle (λ j u _ e. h.2 j u e) j u e)))
            (λ (t : Taken s.words s.homes s.views r.base). let ne : t.holder ≢ id = not_holder lease journal stands s.words s.homes s.views r.base t id v at idle in let ne' : t.holder ≢ other = not_holder lease journal stands s.words s.homes s.views r.base t other w was idle' in inr record {
              holder = t.holder;
              view = t.view;
              there = set_else vs other t.holder spent ne' ∙ (set_else s.views id t.holder b ne ∙ t.there);
              holds = t.holds;
              live = t.live;
              word = t.word;
              out = t.out;
              no_other = all_set (λ j u. j ≢ t.holder → u.held ≡ None) vs other spent (λ _. refl) (λ j u _ e. all_set (λ j u. j ≢ t.holder → u.held ≡ None) s.views id b (λ _. idle) (λ j u _ e m. t.no_other j u e m) j u e);
            })
            r.place;
        each = all_set (λ j u. Live u → Fit r.part r.seats r.base u) vs other spent (λ l. absurd (omega arith))
            (λ j u _ e. all_set (λ j u. Live u → Fit r.part r.seats r.base u) s.views id b
            (λ _. record { leased = f.leased; since = since_longer (leb (length v.seen) (length w.seen)) v.seen w.seen v.lease (journal r.base) none f.since (g.since.0, g.since.1); part_is = f.part_is; seats_are = f.seats_are; first = f.first; last = g.last })
            (λ j u _ e. r.each j u e) j u e);
        ranges = subst (Pairs Clear) (sym rs) (join_ranges (map range s.views) id other (range v) (range w) at_v at_w apart lv lw next r.ranges);
        first_only = subst (FirstOnly (lease r.base)) (sym rs)
            (first_gone (lease r.base) (set (map range s.views) id (v.from, w.to)) other (range w) (1, 0) at_w' (sym g.leased ∙ none')
            (first_set (lease r.base) (map range s.views) id (range v) (v.from, w.to) at_v refl (omega arith) r.first_only));
      }
