-- A turn that is given back keeps the rule.
use Rattle.std.proofs.Common.{◌≡◌, ◌≢◌, ℕ, ◌<◌, ◌≤◌, Bool, List, [], ◌∷◌, ◌++◌, set, sym, refl, ap, ◌∙◌, subst, ⊎_elim, inl, arith, append_assoc, append-nil, Option, Some, None, IsSomeAnd}
use mathlib.Core.Option as maybe
use mathlib.Core.Logic.{dite}
use native.Mathlib.Decide.{ℕ_discrete}
use lib.ListN.{get_elem?}
use Rattle.atomic_table.specs.Table.{State, Me, gives, rest, step, Allows}
use Rattle.atomic_table.proofs.Lists.{at_map}
use Rattle.ink_leasing.specs.Leases.{Lease, AreApart, Has}
use Rattle.ink_lease.specs.declared.view.View.{View}
use Rattle.ink_lease.specs.Rule.{range, Live, Free, Taken, Fits, Kept, Owes, given, gave}
use Rattle.ink_lease.proofs.Places.{none_not_some, same_some, one_there, all_set, first_state}
use Rattle.ink_lease.proofs.SpareLemmas.{spares_nil, spares_more, named_without}
use Rattle.ink_lease.proofs.Seats.{kept_at}

module _ {S F : Type 0} (lease : S → ℕ → Lease) (journal : S → List ℕ) (stands : S → F → Type 0) where
  abbrev V : Type 0
  V = View S F

  abbrev St : Type 0
  St = State (Option S) V

  abbrev M : Type 0
  M = Me (Option S) V

  abbrev Rule : St → Type 0
  Rule = Kept lease journal stands

  abbrev Fit : F → ℕ → S → V → Type 0
  Fit = Fits lease journal stands

  -- two seats with numbers have different first numbers
  apart_first : (s : St) (r : Rule s) (i j : ℕ) (v u : V) → get_elem? s.views i ≡ maybe.some v → get_elem? s.views j ≡ maybe.some u → j ≢ i → v.from ≤ v.to → u.from ≤ u.to → u.from ≢ v.from
  apart_first s r i j v u at there ne lv lu same = ⊎_elim (λ (p : v.to < u.from). omega arith) (λ (p : u.to < v.from). omega arith)
      (r.ranges i j (range v) (range u) (at_map range s.views i v at) (at_map range s.views j u there) (λ e. ne (sym e)) lv lu)

  module _ (rests : S → Bool) (apart : (x : S) (part : F) → stands x part → AreApart (lease x)) where
    -- the seat that holds the turn is the holder, and took the base
    is_holder : (s : St) (r : Rule s) (id : ℕ) (v : V) (x : S) → get_elem? s.views id ≡ maybe.some v → v.held ≡ Some x → (t : Taken s.words s.homes s.views r.base) × (t.holder ≡ id) × (r.base ≡ x)
    is_holder s r id v x at has = ⊎_elim
        (λ (h : Free s.words s.homes s.views r.base). absurd (none_not_some x (sym (h.2 id v at) ∙ has)))
        (λ (t : Taken s.words s.homes s.views r.base). dite (ℕ_discrete id t.holder)
        (λ is. let same : t.view ≡ v = one_there s.views id t.view v (subst (λ j. get_elem? s.views j ≡ maybe.some t.view) (sym is) t.there) at in
        (t, sym is, same_some r.base x (sym t.holds ∙ (ap (λ (u : V). u.held) same ∙ has))))
        (λ ne. absurd (none_not_some x (sym (t.no_other id v at ne) ∙ has))))
        r.place

    -- what another seat knows stays so
    still_fits : (s : St) (r : Rule s) (id : ℕ) (v : V) (y : S) → get_elem? s.views id ≡ maybe.some v → v.from ≤ v.to → Owes lease journal stands v r.base y
        → (j : ℕ) (u : V) → j ≢ id → get_elem? s.views j ≡ maybe.some u → Live u → Fit r.part r.seats y u
    still_fits s r id v y at live owes j u ne there lu =
        let f = r.each j u there lu in let mine = r.each id v at live in let differ : u.from ≢ v.from = apart_first s r id j v u at there ne live lu in record {
          leased = f.leased ∙ sym (owes.other_leases u.from differ);
          since = let xs = f.since.0 in let es = owes.events.0 in (
            xs ++ es,
            owes.events.1 ∙ (ap (λ js. js ++ es) f.since.1 ∙ append_assoc u.seen xs es),
            spares_more u.lease xs es f.since.2 (λ p h. named_without p v.lease es owes.events.2 (λ g.
                differ ((apart r.base r.part r.standing).0 u.from v.from p (subst (Has p) f.leased h) (subst (Has p) mine.leased g)))),
          );
          part_is = f.part_is;
          seats_are = f.seats_are;
          first = f.first;
          last = f.last;
        }

    gives_slot : (slots id : ℕ) (v : V) (x y : S) → v.held ≡ Some x → v.from ≤ v.to → Owes lease journal stands v x y
        → Allows Rule slots id (v, (0, Some y) ∷ []) 0 (λ _. 0) (λ _. gave lease journal stands rests (step slots 0 0 0 maybe.none) (v, (0, Some y) ∷ []) 0)
    gives_slot slots id v x y has live owes_x s r long at small =
        let h = is_holder s r id v x at has in let t = h.0 in let mine = r.each id v at live in let w : V = given lease journal stands rests y v in
        let owes : Owes lease journal stands v r.base y = subst (λ z. Owes lease journal stands v z y) (sym h.2) owes_x in (
          w,
          gives,
          tt,
          kept_at lease journal stands s r id v w at refl (set s.words 0 0) (set s.homes 0 (maybe.some (Some y))) y (subst (λ o. IsSomeAnd o (stands y)) mine.part_is owes.stands_for)
              (inl (
                ap (λ ws. set ws 0 0) t.word,
                ap (λ hs. set hs 0 (maybe.some (Some y))) t.out,
                all_set (λ j u. u.held ≡ None) s.views id w refl (λ j u ne e. t.no_other j u e (λ is. ne (is ∙ h.1))),
              ))
              (λ _. record { leased = refl; since = ([], sym (append-nil (journal y)), spares_nil (lease y v.from)); part_is = mine.part_is; seats_are = mine.seats_are; first = mine.first; last = mine.last })
              (still_fits s r id v y at live owes)
              (λ k e. dite (ℕ_discrete k v.from) (λ is. (id, range v, at_map range s.views id v at, live, sym is)) (λ ne. r.first_only k (λ z. e (owes.other_leases k ne ∙ z)))),
          (λ z e. let same : y ≡ z = ap (first_state y) e in ap (λ (q : S). (given lease journal stands rests q v, [])) same),
        )

    pub gives_back : (slots id : ℕ) (me : M) (x y : S) → me.0.held ≡ Some x → me.1 ≡ (0, Some y) ∷ [] → me.0.from ≤ me.0.to → Owes lease journal stands me.0 x y
        → Allows Rule slots id me 0 (λ _. 0) (λ _. gave lease journal stands rests (step slots 0 0 0 maybe.none) me 0)
    gives_back slots id me x y has out live owes =
        subst (λ c. Allows Rule slots id (me.0, c) 0 (λ _. 0) (λ _. gave lease journal stands rests (step slots 0 0 0 maybe.none) (me.0, c) 0)) (sym out) (gives_slot slots id me.0 x y has live owes)

  pub gives_again : (rests : S → Bool) (apart : (x : S) (part : F) → stands x part → AreApart (lease x)) (slots id : ℕ) (m m' : M) (x y : S) → m.0.held ≡ Some x → m.1 ≡ (0, None) ∷ [] → m' ≡ (m.0, (0, Some y) ∷ rest m.1)
      → m.0.from ≤ m.0.to → Owes lease journal stands m.0 x y → Allows Rule slots id m' 0 (λ _. 0) (λ _. gave lease journal stands rests (step slots 0 0 0 maybe.none) m' 0)
  gives_again rests apart slots id m m' x y has out is live owes =
      subst (λ (q : M). Allows Rule slots id q 0 (λ _. 0) (λ _. gave lease journal stands rests (step slots 0 0 0 maybe.none) q 0)) (sym is)
      (gives_back rests apart slots id (m.0, (0, Some y) ∷ rest m.1) x y has (ap (λ (r : List (ℕ × Option S)). (0, Some y) ∷ rest r) out) live owes)
