-- What a worker's hand keeps at a turn, over any state whose processes can be leased.
use Rattle.std.proofs.Common.{◌≡◌, ◌≢◌, ℕ, ◌≤◌, List, [], ◌∷◌, ◌++◌, Option, Some, sym, ap, subst, ◌∙◌, ⊎_elim, arith, append-nil, IsSomeAnd}
use Rattle.ink_leasing.specs.Leases.{AreApart, Lease, Has, OneMore, Loses, Without, times}
use Rattle.ink_lease.specs.Rule.{Took}
use Rattle.ink_lease.specs.declared.view.View.{View}
use Rattle.ink_worker.proofs.HandLemmas.{came_home, empty_hand, goes_on, has_of_times, last_leased, last_run, run_over, spared, times_gained, times_of_has}
use Rattle.ink_worker.specs.Hands.{Carries, GoesOn}
use Rattle.ink_worker.specs.declared.held.Held.{Held}

module _ {S F W : Type 0} (lease : S → ℕ → Lease) (journal : S → List ℕ) (stands_for : S → F → Type 0) (is_run : F → List ℕ → ℕ → W → Type 0) where
  abbrev pub Apart : Type 0
  Apart = (state : S) (f : F) → stands_for state f → AreApart (lease state)

  abbrev pub StaysRun : Type 0
  StaysRun = (f : F) (state : S) (seen more : List ℕ) (p : ℕ) (w : W) → stands_for state f → journal state ≡ seen ++ more → Without p more → is_run f seen p w → is_run f (journal state) p w

  -- some of the processes that were in hand at first came home
  pub record Homing (fits : F → List ℕ → Type 0) (seat : ℕ) (first : S) (all : List (Held W)) (state : S) (hand : List (Held W)) : Type 0 where
    pub fewer : (p : ℕ) → times p (lease state seat) ≤ times p (lease first seat)
    pub others : (k : ℕ) → k ≢ seat → lease state k ≡ lease first k
    pub journal_on : GoesOn (lease first seat) (journal first) (journal state)
    pub stands : (f : F) (limits : List ℕ) → stands_for first f → fits f limits → Carries (lease first seat) (is_run f (journal first)) all
        → stands_for state f × Carries (lease state seat) (is_run f (journal state)) hand

  module _ (apart : Apart) (stays : StaysRun) where
    -- an event of another leaves a process in hand as it is
    over_event : (f : F) (old new : S) (p q : ℕ) (w : W) → stands_for new f → OneMore p (journal old) (journal new) → q ≢ p → is_run f (journal old) q w → is_run f (journal new) q w
    over_event f old new p q w stands one other run =
        ⊎_elim (λ (same : journal new ≡ journal old). stays f new (journal old) [] q w stands (same ∙ sym (append-nil (journal old))) tt run)
        (λ (longer : journal new ≡ journal old ++ p ∷ []). stays f new (journal old) (p ∷ []) q w stands longer (λ e. other (sym e), tt) run)
        one

    pub one_home : (f : F) (old new : S) (seat : ℕ) (hand : List (Held W)) (last : Held W) → stands_for old f → stands_for new f → OneMore last.process (journal old) (journal new) → Loses last.process (lease old seat) (lease new seat)
        → Carries (lease old seat) (is_run f (journal old)) (hand ++ last ∷ []) → Carries (lease new seat) (is_run f (journal new)) hand
    one_home f old new seat hand last stands stands' one loses carries =
        came_home (lease old seat) (lease new seat) (is_run f (journal old)) (is_run f (journal new)) hand last carries ((apart old f stands).1 seat last.process) loses
        (λ q w other run. over_event f old new last.process q w stands' one other run)

    -- between two turns others leave what is in hand as it is
    pub at_turn : (f : F) (v : View S F) (x : S) (hand : List (Held W)) → v.fixed ≡ Some f → Took lease journal stands_for v x → Carries v.lease (is_run f v.seen) hand → Carries (lease x v.from) (is_run f (journal x)) hand
    at_turn f v x hand fixed took carries =
        let stands : stands_for x f = subst (λ (o : Option F). IsSomeAnd o (stands_for x)) fixed took.stands_for in record {
          same = λ p. carries.same p ∙ ap (times p) (sym took.leased);
          run = run_over (is_run f v.seen) (is_run f (journal x)) hand
              (λ p w some run. let same = carries.same p in stays f x v.seen took.since.0 p w stands took.since.1 (spared p v.lease took.since.0 (has_of_times p v.lease (omega arith)) took.since.2) run)
              carries.run;
        }

    pub stands_then : (f : F) (v : View S F) (x : S) → v.fixed ≡ Some f → Took lease journal stands_for v x → stands_for x f
    stands_then f v x fixed took = subst (λ (o : Option F). IsSomeAnd o (stands_for x)) fixed took.stands_for

    pub carries_then : (f : F) (seat : ℕ) (v : View S F) (x : S) (hand : List (Held W)) → seat ≡ v.from → v.fixed ≡ Some f → Took lease journal stands_for v x → Carries v.lease (is_run f v.seen) hand → Carries (lease x seat) (is_run f (journal x)) hand
    carries_then f seat v x hand here fixed took carries = subst (λ (k : ℕ). Carries (lease x k) (is_run f (journal x)) hand) (sym here) (at_turn f v x hand fixed took carries)

    -- what holds while the processes in hand come home one by one
    module _ (fits : F → List ℕ → Type 0) (seat : ℕ) (first : S) (all : List (Held W)) where
      abbrev pub Begun : Type 0
      Begun = (f : F) × (limits : List ℕ) × stands_for first f × fits f limits × Carries (lease first seat) (is_run f (journal first)) all

      pub still : (state : S) (hand : List (Held W)) → Homing fits seat first all state hand → Begun → (f : F) × (limits : List ℕ) × stands_for state f × fits f limits × Carries (lease state seat) (is_run f (journal state)) hand
      still state hand homing (f, limits, stands, fit, carries) = let now = homing.stands f limits stands fit carries in (f, limits, now.0, fit, now.1)

      pub last_is_leased : (state : S) (hand whole : List (Held W)) (last : Held W) → whole ≡ hand ++ last ∷ [] → Homing fits seat first all state whole → Begun → Has last.process (lease state seat)
      last_is_leased state hand whole last is homing begun =
          let now = still state whole homing begun in
          last_leased (lease state seat) (is_run now.0 (journal state)) hand last (subst (λ (xs : List (Held W)). Carries (lease state seat) (is_run now.0 (journal state)) xs) is now.4)

      pub last_comes : (state : S) (hand whole : List (Held W)) (last : Held W) → whole ≡ hand ++ last ∷ [] → Homing fits seat first all state whole → Begun
          → (f : F) × (limits : List ℕ) × stands_for state f × fits f limits × is_run f (journal state) last.process last.work
      last_comes state hand whole last is homing begun =
          let now = still state whole homing begun in (
            now.0,
            now.1,
            now.2,
            now.3,
            last_run (lease state seat) (is_run now.0 (journal state)) hand last (subst (λ (xs : List (Held W)). Carries (lease state seat) (is_run now.0 (journal state)) xs) is now.4),
          )

      pub one_less : (old new : S) (hand whole : List (Held W)) (last : Held W) → whole ≡ hand ++ last ∷ [] → Homing fits seat first all old whole → Begun
          → ((f : F) (limits : List ℕ) → stands_for old f → fits f limits → is_run f (journal old) last.process last.work → stands_for new f)
          → OneMore last.process (journal old) (journal new) → ((k : ℕ) → k ≢ seat → lease new k ≡ lease old k) → Loses last.process (lease old seat) (lease new seat)
          → Homing fits seat first all new hand
      one_less old new hand whole last is homing begun stands one others loses = record {
        fewer = λ p. let less = times_gained last.process p (lease new seat) (lease old seat) loses in let before = homing.fewer p in omega arith;
        others = λ k other. others k other ∙ homing.others k other;
        journal_on =
            let some = times_of_has last.process (lease old seat) (last_is_leased old hand whole last is homing begun) in
            let before = homing.fewer last.process in
            goes_on (lease first seat) (journal first) (journal old) (journal new) last.process homing.journal_on (has_of_times last.process (lease first seat) (omega arith)) one;
        stands = λ f limits stood fit carries.
            let now = homing.stands f limits stood fit carries in
            let whole' : Carries (lease old seat) (is_run f (journal old)) (hand ++ last ∷ []) = subst (λ (xs : List (Held W)). Carries (lease old seat) (is_run f (journal old)) xs) is now.1 in
            let stands' = stands f limits now.0 fit (last_run (lease old seat) (is_run f (journal old)) hand last whole') in
            (stands', one_home f old new seat hand last now.0 stands' one loses whole');
      }

      -- once nothing is in hand, nothing is leased
      pub all_home : (state : S) (hand : List (Held W)) → hand ≡ [] → Homing fits seat first all state hand → Begun → lease state seat ≡ []
      all_home state hand none homing begun =
          let now = still state hand homing begun in
          empty_hand (lease state seat) (is_run now.0 (journal state)) (subst (λ (xs : List (Held W)). Carries (lease state seat) (is_run now.0 (journal state)) xs) none now.4)
