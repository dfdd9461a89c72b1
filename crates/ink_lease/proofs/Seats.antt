-- What the rule says of one seat, and that a change of one view keeps it.
use Rattle.std.proofs.Common.{◌≡◌, ◌≢◌, ◌⊎◌, ℕ, List, map, set, sym, ap, ◌∙◌, subst, Option, None, IsSomeAnd}
use mathlib.Core.Option as maybe
use lib.ListN.{get_elem?}
use lib.Seq.{map-set}
use Rattle.atomic_table.specs.Table.{State, Me}
use Rattle.atomic_table.proofs.Lists.{set_again, at_map}
use Rattle.ink_leasing.specs.Leases.{Lease}
use Rattle.ink_lease.specs.declared.view.View.{View}
use Rattle.ink_lease.specs.Ranges.{Clear, Pairs, FirstOnly}
use Rattle.ink_lease.specs.Rule.{range, Live, Free, Taken, Fits, Kept, Took}
use Rattle.ink_lease.proofs.Places.{none_not_some, one_there, all_set}

module _ {S F : Type 0} (lease : S → ℕ → Lease) (journal : S → List ℕ) (stands : S → F → Type 0) where
  abbrev pub V : Type 0
  V = View S F

  abbrev pub St : Type 0
  St = State (Option S) V

  abbrev pub M : Type 0
  M = Me (Option S) V

  abbrev pub Rule : St → Type 0
  Rule = Kept lease journal stands

  abbrev pub Fit : F → ℕ → S → V → Type 0
  Fit = Fits lease journal stands

  abbrev pub Placed : List ℕ → List (maybe.Option (Option S)) → List V → S → Type 0
  Placed ws hs vs x = Free ws hs vs x ⊎ Taken ws hs vs x

  -- one seat's view changes, with the same numbers
  pub kept_at : (s : St) (r : Rule s) (id : ℕ) (v w : V) → get_elem? s.views id ≡ maybe.some v → range w ≡ range v → (ws : List ℕ) (hs : List (maybe.Option (Option S))) (base : S) → stands base r.part
      → Placed ws hs (set s.views id w) base
      → (Live w → Fit r.part r.seats base w)
      → ((j : ℕ) (u : V) → j ≢ id → get_elem? s.views j ≡ maybe.some u → Live u → Fit r.part r.seats base u)
      → FirstOnly (lease base) (map range s.views)
      → Rule record { words = ws; homes = hs; views = set s.views id w }
  kept_at s r id v w at same ws hs base ok place mine theirs firsts =
      let rs : map range (set s.views id w) ≡ map range s.views = map-set range s.views id w ∙ (ap (set (map range s.views) id) same ∙ set_again (map range s.views) id (range v) (at_map range s.views id v at)) in record {
        base = base;
        part = r.part;
        seats = r.seats;
        standing = ok;
        place = place;
        each = all_set (λ j u. Live u → Fit r.part r.seats base u) s.views id w mine theirs;
        ranges = subst (Pairs Clear) (sym rs) r.ranges;
        first_only = subst (FirstOnly (lease base)) (sym rs) firsts;
      }

  -- the holder is not a seat that holds nothing
  pub not_holder : (ws : List ℕ) (hs : List (maybe.Option (Option S))) (vs : List V) (x : S) (t : Taken ws hs vs x) (id : ℕ) (v : V) → get_elem? vs id ≡ maybe.some v → v.held ≡ None → t.holder ≢ id
  not_holder ws hs vs x t id v at idle is = let same : t.view ≡ v = one_there vs id t.view v (subst (λ j. get_elem? vs j ≡ maybe.some t.view) is t.there) at in
      none_not_some x (sym idle ∙ (ap (λ (u : V). u.held) (sym same) ∙ t.holds))

  pub learned : (part : F) (seats : ℕ) (x : S) (v : V) → stands x part → Fit part seats x v → Took lease journal stands v x
  learned part seats x v ok f = record {
    stands_for = subst (λ o. IsSomeAnd o (stands x)) (sym f.part_is) ok;
    leased = sym f.leased;
    since = f.since;
  }
