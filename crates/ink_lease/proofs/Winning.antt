-- A try to take the turn keeps the rule.
use Rattle.std.proofs.Common.{◌≡◌, ◌≢◌, ℕ, ◌≤◌, List, ◌∷◌, get_or, set, sym, refl, ap, ◌∙◌, subst, ⊎_elim, inr, eqb, arith, Option, Some, None}
use mathlib.Core.Option as maybe
use lib.ListN.{get_elem?}
use lib.Seq.{set-get_or}
use prog.Atomic.{either}
use Rattle.atomic_table.specs.Table.{State, Me, Act, keeps, takes, rest, step, stepped, Valid, carried_after, Allows}
use Rattle.atomic_table.proofs.Lists.{set_else, exchanged}
use Rattle.ink_leasing.specs.Leases.{Lease}
use Rattle.ink_lease.specs.declared.view.View.{View}
use Rattle.ink_lease.specs.Rule.{holding, lost, Free, Taken, Kept, won_or_lost}
use Rattle.ink_lease.proofs.Places.{at_here, all_set}
use Rattle.ink_lease.proofs.Seats.{kept_at, not_holder, learned}

module _ {S F : Type 0} (lease : S → ℕ → Lease) (journal : S → List ℕ) (stands : S → F → Type 0) where
  abbrev V : Type 0
  V = View S F

  abbrev St : Type 0
  St = State (Option S) V

  abbrev M : Type 0
  M = Me (Option S) V

  abbrev Rule : St → Type 0
  Rule = Kept lease journal stands

  pub wins : (slots id : ℕ) (me : M) → me.0.held ≡ None → me.0.from ≤ me.0.to → Allows Rule slots id me 0 (λ n. either (eqb n 0) me.0.from n) (won_or_lost lease journal stands (step slots 0 0 me.0.from maybe.none) me)
  wins slots id me idle live s r long at small =
      let n : ℕ = get_or s.words 0 0 in let v : V = me.0 in let f = r.each id v at live in
      exchanged n 0 v.from (λ k. (w : V) × (a : Act (Option S)) × Valid s.homes me.1 a × Rule (stepped s 0 k id me.1 w a) × won_or_lost lease journal stands (step slots 0 0 v.from maybe.none) me n (w, carried_after me.1 a))
      (λ zero_there. let w : V = holding r.base v in ⊎_elim
      (λ (h : Free s.words s.homes s.views r.base). (
        w,
        takes 0 (Some r.base),
        ap (λ hs. get_elem? hs 0) h.1,
        kept_at lease journal stands s r id v w at refl (set s.words 0 v.from) (set s.homes 0 maybe.none) r.base r.standing
            (inr record {
              holder = id;
              view = w;
              there = at_here s.views id v w at;
              holds = refl;
              live = live;
              word = ap (λ ws. set ws 0 v.from) h.0;
              out = ap (λ hs. set hs 0 maybe.none) h.1;
              no_other = all_set (λ j u. j ≢ id → u.held ≡ None) s.views id w (λ ne. absurd (ne refl)) (λ j u _ e _. h.2 j u e);
            })
            (λ _. record { leased = f.leased; since = f.since; part_is = f.part_is; seats_are = f.seats_are; first = f.first; last = f.last })
            (λ j u _ e l. r.each j u e l) r.first_only,
        ((λ _. (r.base, refl, learned lease journal stands r.part r.seats r.base v r.standing f)), λ ne. absurd (ne zero_there)),
      ))
      (λ (t : Taken s.words s.homes s.views r.base). let is : n ≡ t.view.from = ap (λ ws. get_or ws 0 0) t.word in let low : 1 ≤ t.view.from = (r.each t.holder t.view t.there t.live).first in absurd (omega arith))
      r.place)
      (λ other. let w : V = lost v in ⊎_elim
      (λ (h : Free s.words s.homes s.views r.base). absurd (other (ap (λ ws. get_or ws 0 0) h.0)))
      (λ (t : Taken s.words s.homes s.views r.base). let apart : t.holder ≢ id = not_holder lease journal stands s.words s.homes s.views r.base t id v at idle in (
        w,
        keeps,
        tt,
        kept_at lease journal stands s r id v w at refl (set s.words 0 n) s.homes r.base r.standing
            (inr record {
              holder = t.holder;
              view = t.view;
              there = set_else s.views id t.holder w apart ∙ t.there;
              holds = t.holds;
              live = t.live;
              word = set-get_or s.words 0 0 ∙ t.word;
              out = t.out;
              no_other = all_set (λ j u. j ≢ t.holder → u.held ≡ None) s.views id w (λ _. idle) (λ j u _ e ne. t.no_other j u e ne);
            })
            (λ _. record { leased = f.leased; since = f.since; part_is = f.part_is; seats_are = f.seats_are; first = f.first; last = f.last })
            (λ j u _ e l. r.each j u e l) r.first_only,
        ((λ z. absurd (other z)), λ _. refl),
      ))
      r.place)

  pub wins_at : (slots id : ℕ) (me : M) (k : ℕ) → me.0.from ≡ k → me.0.held ≡ None → me.0.from ≤ me.0.to → Allows Rule slots id me 0 (λ n. either (eqb n 0) k n) (won_or_lost lease journal stands (step slots 0 0 k maybe.none) me)
  wins_at slots id me k is idle live = subst (λ (x : ℕ). Allows Rule slots id me 0 (λ n. either (eqb n 0) x n) (won_or_lost lease journal stands (step slots 0 0 x maybe.none) me)) is (wins slots id me idle live)

-- the slot that was taken last
pub taken_last : {A : Type 0} (c r : List (ℕ × A)) (x : A) → c ≡ (0, x) ∷ r → c ≡ (0, x) ∷ rest c
taken_last {A} c r x e = e ∙ ap (λ (z : List (ℕ × A)). (0, x) ∷ z) (sym (ap rest e))
