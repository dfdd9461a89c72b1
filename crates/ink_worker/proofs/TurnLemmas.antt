-- What a pass owes and learns at a turn, over any state whose processes can be leased.
use Rattle.std.proofs.Common.{◌≡◌, ◌≢◌, ℕ, Bool, List, ◌++◌, Option, Some, sym, refl, ap, subst, ◌∙◌, append_assoc, IsSomeAnd}
use Rattle.ink_leasing.specs.Leases.{Lease, Named}
use Rattle.ink_lease.specs.Rule.{Owes, Took, given, holding}
use Rattle.ink_lease.specs.declared.view.View.{View}
use Rattle.ink_worker.specs.Hands.{Begins, Carries, GoesOn}
use Rattle.ink_worker.specs.Turns.{Stays}
use Rattle.ink_worker.specs.declared.held.Held.{Held}

pub begins_through : (xs ys zs : List ℕ) → Begins xs ys → Begins ys zs → Begins xs zs
begins_through xs ys zs one two = record {
  more = one.more ++ two.more;
  longer = two.longer ∙ (ap (λ (js : List ℕ). js ++ two.more) one.longer ∙ append_assoc xs one.more two.more);
}

pub stays_through : {S F : Type 0} → (u v w : View S F) → Stays u v → Stays v w → Stays u w
stays_through u v w one two = record {
  from = two.from ∙ one.from;
  to = two.to ∙ one.to;
  seats = two.seats ∙ one.seats;
  fixed = two.fixed ∙ one.fixed;
  seen = begins_through u.seen v.seen w.seen one.seen two.seen;
}

module _ {S F : Type 0} (lease : S → ℕ → Lease) (journal : S → List ℕ) (stands_for : S → F → Type 0) where
  -- what was made of the state that was taken may be given
  pub owed : (seat : ℕ) (f : F) (v w : View S F) (x y : S) (n : ℕ) → seat ≡ v.from → w ≡ holding x (record v { lost = n }) → v.fixed ≡ Some f → Took lease journal stands_for v x
      → stands_for y f → ((k : ℕ) → k ≢ seat → lease y k ≡ lease x k) → GoesOn (lease x seat) (journal x) (journal y) → Owes lease journal stands_for w x y
  owed seat f v w x y n here is fixed took stands others on =
      subst (λ (u : View S F). Owes lease journal stands_for u x y) (sym is) (record {
        stands_for = subst (λ (o : Option F). IsSomeAnd o (stands_for y)) (sym fixed) stands;
        other_leases = λ k other. others k (λ (same : k ≡ seat). other (same ∙ here));
        events = (on.more, on.longer, subst (λ (l : Lease). Named l on.more) (ap (lease x) here ∙ took.leased) on.named);
      })

  module _ (rests : S → Bool) where
    -- the view of a pass that took x and gave y
    abbrev pub after : View S F → S → S → ℕ → View S F
    after v x y n = given lease journal stands_for rests y (holding x (record v { lost = n }))

    pub after_give : (v w z : View S F) (x y : S) (n : ℕ) → w ≡ holding x (record v { lost = n }) → z ≡ given lease journal stands_for rests y w → z ≡ after v x y n
    after_give v w z x y n held gave = gave ∙ ap (given lease journal stands_for rests y) held

    -- the pass stays what it was
    pub stays_on : (seat : ℕ) (v z : View S F) (x y : S) (n : ℕ) → z ≡ after v x y n → Took lease journal stands_for v x → GoesOn (lease x seat) (journal x) (journal y) → Stays v z
    stays_on seat v z x y n is took on =
        subst (λ (u : View S F). Stays v u) (sym is) (record {
          from = refl;
          to = refl;
          seats = refl;
          fixed = refl;
          seen = record {
            more = took.since.0 ++ on.more;
            longer = on.longer ∙ (ap (λ (js : List ℕ). js ++ on.more) took.since.1 ∙ append_assoc v.seen took.since.0 on.more);
          };
        })

    -- what is in hand is what the pass knows to be leased
    pub in_hand : {W : Type 0} → (is_run : List ℕ → ℕ → W → Type 0) (seat : ℕ) (v z : View S F) (x y : S) (n : ℕ) (hand : List (Held W)) → seat ≡ v.from → z ≡ after v x y n
        → Carries (lease y seat) (is_run (journal y)) hand → Carries z.lease (is_run z.seen) hand
    in_hand {W} is_run seat v z x y n hand here is carries =
        subst (λ (u : View S F). Carries u.lease (is_run u.seen) hand) (sym is)
        (subst (λ (k : ℕ). Carries {W = W} (lease y k) (is_run (journal y)) hand) here carries)
