-- A pass that is cut keeps the rule.
use Rattle.std.proofs.Common.{◌≡◌, ◌≢◌, ℕ, ◌+◌, ◌<◌, ◌≤◌, List, [], ◌∷◌, ◌++◌, map, set, sym, refl, ap, ◌∙◌, subst, ⊎_elim, inl, inr, arith, Option, None}
use mathlib.Core.Option as maybe
use mathlib.Core.List.{map-append}
use lib.ListN.{get_elem?}
use lib.Seq.{map-set}
use Rattle.atomic_table.specs.Table.{State, Splits}
use Rattle.atomic_table.proofs.Lists.{set_else, at_longer, at_map}
use Rattle.ink_leasing.specs.Leases.{Lease}
use Rattle.ink_lease.specs.declared.view.View.{View}
use Rattle.ink_lease.specs.Ranges.{Clear, Pairs, FirstOnly}
use Rattle.ink_lease.specs.Rule.{range, Live, first_one, others, Free, Taken, Fits, Kept}
use Rattle.ink_lease.proofs.Places.{all_set, all_snoc}
use Rattle.ink_lease.proofs.RangeLemmas.{split_ranges, first_set, first_snoc, unleased}
use Rattle.ink_lease.proofs.Seats.{not_holder}

module _ {S F : Type 0} (lease : S → ℕ → Lease) (journal : S → List ℕ) (stands : S → F → Type 0) where
  abbrev V : Type 0
  V = View S F

  abbrev St : Type 0
  St = State (Option S) V

  abbrev Rule : St → Type 0
  Rule = Kept lease journal stands

  abbrev Fit : F → ℕ → S → V → Type 0
  Fit = Fits lease journal stands

  pub splits : (id : ℕ) (v : V) → v.held ≡ None → v.from < v.to → Splits Rule id v (first_one v) (others v)
  splits id v idle wide s r at =
      let l : V = first_one v in let o : V = others v in let vs : List V = set s.views id l in let f = r.each id v at (omega arith) in
      let rs : map range (vs ++ o ∷ []) ≡ set (map range s.views) id (v.from, v.from) ++ (v.from + 1, v.to) ∷ [] = map-append range vs (o ∷ []) ∙ ap (λ xs. xs ++ range o ∷ []) (map-set range s.views id l) in
      let place_of : get_elem? (map range s.views) id ≡ maybe.some (range v) = at_map range s.views id v at in
      let less : v.to ≤ r.seats = f.last in let low : 1 ≤ v.from = f.first in record {
        base = r.base;
        part = r.part;
        seats = r.seats;
        standing = r.standing;
        place = ⊎_elim
            (λ (h : Free s.words s.homes s.views r.base). inl (h.0, h.1, all_snoc (λ j u. u.held ≡ None) vs o refl (all_set (λ j u. u.held ≡ None) s.views id l idle (λ j u _ e. h.2 j u e))))
            (λ (t : Taken s.words s.homes s.views r.base). let ne : t.holder ≢ id = not_holder lease journal stands s.words s.homes s.views r.base t id v at idle in inr record {
              holder = t.holder;
              view = t.view;
              there = at_longer vs (o ∷ []) t.holder t.view (set_else s.views id t.holder l ne ∙ t.there);
              holds = t.holds;
              live = t.live;
              word = t.word;
              out = t.out;
              no_other = all_snoc (λ j u. j ≢ t.holder → u.held ≡ None) vs o (λ _. refl) (all_set (λ j u. j ≢ t.holder → u.held ≡ None) s.views id l (λ _. idle) (λ j u _ e m. t.no_other j u e m));
            })
            r.place;
        each = all_snoc (λ j u. Live u → Fit r.part r.seats r.base u) vs o
            (λ _. record {
              leased = sym (unleased (lease r.base) (map range s.views) id (range v) place_of (omega arith) r.first_only r.ranges (v.from + 1) (omega arith) (omega arith));
              since = (f.since.0, f.since.1, tt);
              part_is = f.part_is;
              seats_are = f.seats_are;
              first = omega arith;
              last = f.last;
            })
            (all_set (λ j u. Live u → Fit r.part r.seats r.base u) s.views id l
            (λ _. record { leased = f.leased; since = f.since; part_is = f.part_is; seats_are = f.seats_are; first = f.first; last = omega arith }) (λ j u _ e. r.each j u e));
        ranges = subst (Pairs Clear) (sym rs) (split_ranges (map range s.views) id v.from v.to place_of wide r.ranges);
        first_only = subst (FirstOnly (lease r.base)) (sym rs)
            (first_snoc (lease r.base) (set (map range s.views) id (v.from, v.from)) (v.from + 1, v.to) (first_set (lease r.base) (map range s.views) id (range v) (v.from, v.from) place_of refl (omega arith) r.first_only));
      }
