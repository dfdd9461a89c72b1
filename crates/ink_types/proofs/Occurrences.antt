-- The occurrences of parameters in a pattern, and the types that they ask for.
use Rattle.std.proofs.Common.{◌≡◌, ℕ, zero, suc, ◌≤◌, List, [], ◌∷◌, Bool, true, false, Option, Some, None, refl, sym, ap, subst, ◌∙◌, ◌⊎◌, inl, inr, eqb, eq-eqb, if◌then◌else◌, ◌&&◌, length, arith}
use Rattle.std.specs.Prelude.{is_some, unwrap_or, slice_get}
use Rattle.std.proofs.lemmas.Bool.{eqb-true}
use Rattle.std.proofs.lemmas.Option.{slice_get_past}
use Rattle.ink_types.specs.declared.matching.Under.{Under}
use Rattle.ink_types.specs.declared.matching.Under.TheVariants as under
use Rattle.ink_types.specs.TypeTerms.{TypeTerm, TypeTerms, Parameter, Of, Ref, Mut, Uni, NoTerms, AndTerm, never, same_type, is_borrow, ref_of, mut_of, uni_of, argument_or, substitute, substitute_all}
use Rattle.ink_types.specs.Matching.{below, then_mut, same_under, type_below, arguments_below, unique_below, is_below_if, fits_below, fit_all, or_else, asked, asked_among, wanted, chosen_at, chosen, fits, Fills, NoneFits, IsMatched, filled}
use Rattle.ink_types.proofs.Same.{same_true, same_refl}
use Rattle.ink_types.proofs.Filling.{IsFilled, is_filled}
use Rattle.ink_types.proofs.Prefixes.{ref_mut, below_ref, below_mut, type_given, type_bare, type_there, kind_made, kind_given, unique_made, unique_given}

both : (a b : Bool) → (a && b) ≡ true → (a ≡ true) × (b ≡ true)
both true b e = (refl, e)
both false b e = cc

and_both : (a b : Bool) → a ≡ true → b ≡ true → (a && b) ≡ true
and_both true b g h = h
and_both false b g h = cc

past_end : {A : Type 0} (xs : List A) (i : ℕ) → slice_get xs i ≡ None → length xs ≤ i
past_end [] i e = omega arith
past_end (x ∷ xs) zero e = cc
past_end (x ∷ xs) (suc i) e = let l : length xs ≤ i = past_end xs i e in omega arith

some_of : {A : Type 0} (o : Option A) → is_some o ≡ true → (x : A) × (o ≡ Some x)
some_of None e = cc
some_of (Some x) e = (x, refl)

if_some : {A : Type 0} (b : Bool) (o : Option A) (y : A) → (if b then o else None) ≡ Some y → (b ≡ true) × (o ≡ Some y)
if_some true o y e = (refl, e)
if_some false o y e = cc

or_some : (o q : Option TypeTerm) (y : TypeTerm) → or_else o q ≡ Some y → (o ≡ Some y) ⊎ ((o ≡ None) × (q ≡ Some y))
or_some (Some x) q y e = inl e
or_some None q y e = inr (refl, e)

or_none : (o q : Option TypeTerm) → or_else o q ≡ None → (o ≡ None) × (q ≡ None)
or_none (Some x) q e = cc
or_none None q e = (refl, e)

same_under_true : (u v : Under) → same_under u v ≡ true → u ≡ v
same_under_true under.Nothing under.Nothing e = refl
same_under_true under.Ref under.Ref e = refl
same_under_true under.Mut under.Mut e = refl
same_under_true under.Nothing under.Ref e = cc
same_under_true under.Nothing under.Mut e = cc
same_under_true under.Ref under.Nothing e = cc
same_under_true under.Ref under.Mut e = cc
same_under_true under.Mut under.Nothing e = cc
same_under_true under.Mut under.Ref e = cc

same_under_refl : (u : Under) → same_under u u ≡ true
same_under_refl under.Nothing = refl
same_under_refl under.Ref = refl
same_under_refl under.Mut = refl

module _ (kinds : List Bool) where
  -- each occurrence of a parameter, below its prefix and against its type, is as G says
  abbrev mutual
    pub Each : (ℕ → Under → TypeTerm → Type 0) → Under → TypeTerm → TypeTerm → Type 0
    Each G u (Parameter n) a = G n u a
    Each G u (Of k ts) a = (xs : TypeTerms) → arguments_below kinds u k a ≡ Some xs → EachAll G ts xs
    Each G u (Ref t) a = Each G under.Ref t a
    Each G u (Mut t) a = Each G (then_mut u) t a
    Each G u (Uni t) a = (w : TypeTerm) → unique_below kinds u a ≡ Some w → Each G under.Nothing t w

    pub EachAll : (ℕ → Under → TypeTerm → Type 0) → TypeTerms → TypeTerms → Type 0
    EachAll G NoTerms xs = Unit {0}
    EachAll G (AndTerm t ts) NoTerms = Unit {0}
    EachAll G (AndTerm t ts) (AndTerm a xs) = Each G under.Nothing t a × EachAll G ts xs

  -- what is chosen for a parameter is, below the prefix, the type
  abbrev pub Met : (ℕ → Option TypeTerm) → ℕ → Under → TypeTerm → Type 0
  Met choose n u a = (x : TypeTerm) × (choose n ≡ Some x) × (below kinds u x ≡ a)

  below_if : (u : Under) (o : Option TypeTerm) (a : TypeTerm) → is_below_if kinds u o a ≡ true → (x : TypeTerm) × (o ≡ Some x) × (below kinds u x ≡ a)
  below_if u None a e = cc
  below_if u (Some x) a e = (x, refl, same_true (below kinds u x) a e)

  mutual
    unfolding fits_below fit_all

    met : (choose : ℕ → Option TypeTerm) (u : Under) (t a : TypeTerm) → fits_below kinds choose u t a ≡ true → Each (Met choose) u t a
    met choose u (Parameter n) a e = below_if u (choose n) a e
    met choose u (Of k ts) a e = λ xs h.
        met_all choose ts xs (subst (λ o. fit_all kinds choose ts (unwrap_or o NoTerms) ≡ true) h (both (is_some (arguments_below kinds u k a)) (fit_all kinds choose ts (unwrap_or (arguments_below kinds u k a) NoTerms)) e).1)
    met choose u (Ref t) a e = met choose under.Ref t a e
    met choose u (Mut t) a e = met choose (then_mut u) t a e
    met choose u (Uni t) a e = λ w h.
        met choose under.Nothing t w (subst (λ o. fits_below kinds choose under.Nothing t (unwrap_or o never) ≡ true) h (both (is_some (unique_below kinds u a)) (fits_below kinds choose under.Nothing t (unwrap_or (unique_below kinds u a) never)) e).1)

    met_all : (choose : ℕ → Option TypeTerm) (ts xs : TypeTerms) → fit_all kinds choose ts xs ≡ true → EachAll (Met choose) ts xs
    met_all choose NoTerms xs e = tt
    met_all choose (AndTerm t ts) NoTerms e = tt
    met_all choose (AndTerm t ts) (AndTerm a xs) e =
        let p = both (fits_below kinds choose under.Nothing t a) (fit_all kinds choose ts xs) e in
        (met choose under.Nothing t a p.0, met_all choose ts xs p.1)

  mutual
    unfolding fits_below fit_all

    -- what is chosen otherwise makes the pattern the type too, where each occurrence is met
    refit : (choose other : ℕ → Option TypeTerm) (u : Under) (t a : TypeTerm) → fits_below kinds choose u t a ≡ true → Each (Met other) u t a → fits_below kinds other u t a ≡ true
    refit choose other u (Parameter n) a e m = ap (λ o. is_below_if kinds u o a) m.1 ∙ ap (λ x. same_type x a) m.2 ∙ same_refl a
    refit choose other u (Of k ts) a e m =
        let o = arguments_below kinds u k a in
        let p = both (is_some o) (fit_all kinds choose ts (unwrap_or o NoTerms)) e in
        let q = some_of o p.0 in
        let r : fit_all kinds other ts q.0 ≡ true = refit_all choose other ts q.0 (subst (λ v. fit_all kinds choose ts (unwrap_or v NoTerms) ≡ true) q.1 p.1) (m q.0 q.1) in
        and_both (is_some o) (fit_all kinds other ts (unwrap_or o NoTerms)) p.0 (ap (λ v. fit_all kinds other ts (unwrap_or v NoTerms)) q.1 ∙ r)
    refit choose other u (Ref t) a e m = refit choose other under.Ref t a e m
    refit choose other u (Mut t) a e m = refit choose other (then_mut u) t a e m
    refit choose other u (Uni t) a e m =
        let o = unique_below kinds u a in
        let p = both (is_some o) (fits_below kinds choose under.Nothing t (unwrap_or o never)) e in
        let q = some_of o p.0 in
        let r : fits_below kinds other under.Nothing t q.0 ≡ true = refit choose other under.Nothing t q.0 (subst (λ v. fits_below kinds choose under.Nothing t (unwrap_or v never) ≡ true) q.1 p.1) (m q.0 q.1) in
        and_both (is_some o) (fits_below kinds other under.Nothing t (unwrap_or o never)) p.0 (ap (λ v. fits_below kinds other under.Nothing t (unwrap_or v never)) q.1 ∙ r)

    refit_all : (choose other : ℕ → Option TypeTerm) (ts xs : TypeTerms) → fit_all kinds choose ts xs ≡ true → EachAll (Met other) ts xs → fit_all kinds other ts xs ≡ true
    refit_all choose other NoTerms NoTerms e m = refl
    refit_all choose other NoTerms (AndTerm a xs) e m = cc
    refit_all choose other (AndTerm t ts) NoTerms e m = cc
    refit_all choose other (AndTerm t ts) (AndTerm a xs) e m =
        let p = both (fits_below kinds choose under.Nothing t a) (fit_all kinds choose ts xs) e in
        and_both (fits_below kinds other under.Nothing t a) (fit_all kinds other ts xs) (refit choose other under.Nothing t a p.0 m.0) (refit_all choose other ts xs p.1 m.1)

  mutual
    each_two : (G H K : ℕ → Under → TypeTerm → Type 0) → ((n : ℕ) (u : Under) (a : TypeTerm) → G n u a → H n u a → K n u a) →
        (u : Under) (t a : TypeTerm) → Each G u t a → Each H u t a → Each K u t a
    each_two G H K f u (Parameter n) a g h = f n u a g h
    each_two G H K f u (Of k ts) a g h = λ xs e. each_two_all G H K f ts xs (g xs e) (h xs e)
    each_two G H K f u (Ref t) a g h = each_two G H K f under.Ref t a g h
    each_two G H K f u (Mut t) a g h = each_two G H K f (then_mut u) t a g h
    each_two G H K f u (Uni t) a g h = λ w e. each_two G H K f under.Nothing t w (g w e) (h w e)

    each_two_all : (G H K : ℕ → Under → TypeTerm → Type 0) → ((n : ℕ) (u : Under) (a : TypeTerm) → G n u a → H n u a → K n u a) →
        (ts xs : TypeTerms) → EachAll G ts xs → EachAll H ts xs → EachAll K ts xs
    each_two_all G H K f NoTerms xs g h = tt
    each_two_all G H K f (AndTerm t ts) NoTerms g h = tt
    each_two_all G H K f (AndTerm t ts) (AndTerm a xs) g h = (each_two G H K f under.Nothing t a g.0 h.0, each_two_all G H K f ts xs g.1 h.1)

  each_one : (G K : ℕ → Under → TypeTerm → Type 0) → ((n : ℕ) (u : Under) (a : TypeTerm) → G n u a → K n u a) → (u : Under) (t a : TypeTerm) → Each G u t a → Each K u t a
  each_one G K f u t a g = each_two G G K (λ n v b x y. f n v b x) u t a g g

  mutual
    -- what holds of the occurrences of each parameter holds of all
    each_of : (G : ℕ → Under → TypeTerm → Type 0) (u : Under) (t a : TypeTerm) → ((n : ℕ) → Each (λ m v b. m ≡ n → G m v b) u t a) → Each G u t a
    each_of G u (Parameter n) a h = h n refl
    each_of G u (Of k ts) a h = λ xs e. each_of_all G ts xs (λ n. h n xs e)
    each_of G u (Ref t) a h = each_of G under.Ref t a h
    each_of G u (Mut t) a h = each_of G (then_mut u) t a h
    each_of G u (Uni t) a h = λ w e. each_of G under.Nothing t w (λ n. h n w e)

    each_of_all : (G : ℕ → Under → TypeTerm → Type 0) (ts xs : TypeTerms) → ((n : ℕ) → EachAll (λ m v b. m ≡ n → G m v b) ts xs) → EachAll G ts xs
    each_of_all G NoTerms xs h = tt
    each_of_all G (AndTerm t ts) NoTerms h = tt
    each_of_all G (AndTerm t ts) (AndTerm a xs) h = (each_of G under.Nothing t a (λ n. (h n).0), each_of_all G ts xs (λ n. (h n).1))

  module _ (n : ℕ) (x : TypeTerm) where
    -- x meets the occurrences of the parameter n
    abbrev pub Meets : ℕ → Under → TypeTerm → Type 0
    Meets m u a = m ≡ n → below kinds u x ≡ a

    -- what is asked below b makes there what x makes, and is x if x isn't a borrow
    abbrev pub IsAsked : Under → TypeTerm → Type 0
    IsAsked b y = (below kinds b y ≡ below kinds b x) × (is_borrow x ≡ false → x ≡ y)

    asked_here : (b u : Under) (m : ℕ) (a y : TypeTerm) → m ≡ n → u ≡ b → below kinds u x ≡ a → type_below kinds u a ≡ Some y → IsAsked b y
    asked_here b u m a y e f g h = (
      subst (λ v. below kinds v y ≡ below kinds v x) f (type_given kinds u a y h ∙ sym g),
      λ c. let q : Some x ≡ Some y = sym (type_bare kinds u x c) ∙ ap (type_below kinds u) g ∙ h in cc,
    )

    mutual
      unfolding asked asked_among

      asked_is : (b u : Under) (t a y : TypeTerm) → Each Meets u t a → asked kinds n b u t a ≡ Some y → IsAsked b y
      asked_is b u (Parameter m) a y g e =
          let p = if_some (eqb m n && same_under u b) (type_below kinds u a) y e in
          let q = both (eqb m n) (same_under u b) p.0 in
          let r : m ≡ n = eqb-true m n q.0 in
          asked_here b u m a y r (same_under_true u b q.1) (g r) p.1
      asked_is b u (Of k ts) a y g e =
          let o = arguments_below kinds u k a in
          let p = if_some (is_some o) (asked_among kinds n b ts (unwrap_or o NoTerms)) y e in
          let q = some_of o p.0 in
          asked_among_is b ts q.0 y (g q.0 q.1) (ap (λ v. asked_among kinds n b ts (unwrap_or v NoTerms)) (sym q.1) ∙ p.1)
      asked_is b u (Ref t) a y g e = asked_is b under.Ref t a y g e
      asked_is b u (Mut t) a y g e = asked_is b (then_mut u) t a y g e
      asked_is b u (Uni t) a y g e =
          let o = unique_below kinds u a in
          let p = if_some (is_some o) (asked kinds n b under.Nothing t (unwrap_or o never)) y e in
          let q = some_of o p.0 in
          asked_is b under.Nothing t q.0 y (g q.0 q.1) (ap (λ v. asked kinds n b under.Nothing t (unwrap_or v never)) (sym q.1) ∙ p.1)

      asked_among_is : (b : Under) (ts xs : TypeTerms) (y : TypeTerm) → EachAll Meets ts xs → asked_among kinds n b ts xs ≡ Some y → IsAsked b y
      asked_among_is b NoTerms xs y g e = cc
      asked_among_is b (AndTerm t ts) NoTerms y g e = cc
      asked_among_is b (AndTerm t ts) (AndTerm a xs) y g e =
          elim (or_some (asked kinds n b under.Nothing t a) (asked_among kinds n b ts xs) y e) [
            | inl p ↦ asked_is b under.Nothing t a y g.0 p
            | inr p ↦ asked_among_is b ts xs y g.1 p.1
          ]

    -- the parameter doesn't occur below b
    abbrev pub NotBelow : Under → ℕ → Under → TypeTerm → Type 0
    NotBelow b m u a = m ≡ n → u ≡ b → ⊥

    not_here : (b u : Under) (m : ℕ) (a : TypeTerm) → (m ≡ n → below kinds u x ≡ a) → (if (eqb m n && same_under u b) then type_below kinds u a else None) ≡ None → m ≡ n → u ≡ b → ⊥
    not_here b u m a g e r f =
        let one : eqb m n ≡ true = eq-eqb m n r in
        let two : same_under u b ≡ true = ap (same_under u) (sym f) ∙ same_under_refl u in
        let here : (eqb m n && same_under u b) ≡ true = and_both (eqb m n) (same_under u b) one two in
        let none : type_below kinds u a ≡ None = ap (λ c. if c then type_below kinds u a else None) (sym here) ∙ e in
        type_there kinds u x (ap (type_below kinds u) (g r) ∙ none)

    mutual
      unfolding asked asked_among

      asked_not : (b u : Under) (t a : TypeTerm) → Each Meets u t a → asked kinds n b u t a ≡ None → Each (NotBelow b) u t a
      asked_not b u (Parameter m) a g e = not_here b u m a g e
      asked_not b u (Of k ts) a g e = λ xs h.
          asked_among_not b ts xs (g xs h) (subst (λ o. (if is_some o then asked_among kinds n b ts (unwrap_or o NoTerms) else None) ≡ None) h e)
      asked_not b u (Ref t) a g e = asked_not b under.Ref t a g e
      asked_not b u (Mut t) a g e = asked_not b (then_mut u) t a g e
      asked_not b u (Uni t) a g e = λ w h.
          asked_not b under.Nothing t w (g w h) (subst (λ o. (if is_some o then asked kinds n b under.Nothing t (unwrap_or o never) else None) ≡ None) h e)

      asked_among_not : (b : Under) (ts xs : TypeTerms) → EachAll Meets ts xs → asked_among kinds n b ts xs ≡ None → EachAll (NotBelow b) ts xs
      asked_among_not b NoTerms xs g e = tt
      asked_among_not b (AndTerm t ts) NoTerms g e = tt
      asked_among_not b (AndTerm t ts) (AndTerm a xs) g e =
          let p = or_none (asked kinds n b under.Nothing t a) (asked_among kinds n b ts xs) e in
          (asked_not b under.Nothing t a g.0 p.0, asked_among_not b ts xs g.1 p.1)

    -- the occurrence is met by what is wanted
    abbrev pub WantedMeets : Option TypeTerm → ℕ → Under → TypeTerm → Type 0
    WantedMeets o m u a = m ≡ n → (y : TypeTerm) × (o ≡ Some y) × (below kinds u y ≡ a)

    mut_enough : (u : Under) (y : TypeTerm) → (u ≡ under.Nothing → ⊥) → mut_of kinds y ≡ mut_of kinds x → below kinds u y ≡ below kinds u x
    mut_enough under.Nothing y h e = absurd (h refl)
    mut_enough under.Mut y h e = e
    mut_enough under.Ref y h e = sym (ref_mut kinds y) ∙ ap (ref_of kinds) e ∙ ref_mut kinds x

    ref_enough : (u : Under) (y : TypeTerm) → (u ≡ under.Nothing → ⊥) → (u ≡ under.Mut → ⊥) → ref_of kinds y ≡ ref_of kinds x → below kinds u y ≡ below kinds u x
    ref_enough under.Nothing y h i e = absurd (h refl)
    ref_enough under.Mut y h i e = absurd (i refl)
    ref_enough under.Ref y h i e = e

    none_enough : (u : Under) → (u ≡ under.Nothing → ⊥) → (u ≡ under.Mut → ⊥) → (u ≡ under.Ref → ⊥) → ⊥
    none_enough under.Nothing f g h = f refl
    none_enough under.Mut f g h = g refl
    none_enough under.Ref f g h = h refl

    module _ (p a : TypeTerm) (all : Each Meets under.Nothing p a) where
      wanted_by : (o1 o2 o3 : Option TypeTerm) → asked kinds n under.Nothing under.Nothing p a ≡ o1 → asked kinds n under.Mut under.Nothing p a ≡ o2 → asked kinds n under.Ref under.Nothing p a ≡ o3 →
          Each (WantedMeets (or_else o1 (or_else o2 o3))) under.Nothing p a
      wanted_by (Some y) o2 o3 e1 e2 e3 =
          let q = asked_is under.Nothing under.Nothing p a y all e1 in
          each_one Meets (WantedMeets (Some y)) (λ m u b g r. (y, refl, ap (below kinds u) q.0 ∙ g r)) under.Nothing p a all
      wanted_by None (Some y) o3 e1 e2 e3 =
          let q = asked_is under.Mut under.Nothing p a y all e2 in
          each_two Meets (NotBelow under.Nothing) (WantedMeets (Some y)) (λ m u b g h r. (y, refl, mut_enough u y (h r) q.0 ∙ g r)) under.Nothing p a all
          (asked_not under.Nothing under.Nothing p a all e1)
      wanted_by None None (Some y) e1 e2 e3 =
          let q = asked_is under.Ref under.Nothing p a y all e3 in
          each_two (λ m u b. Meets m u b × NotBelow under.Nothing m u b) (NotBelow under.Mut) (WantedMeets (Some y))
          (λ m u b g h r. (y, refl, ref_enough u y (g.1 r) (h r) q.0 ∙ g.0 r)) under.Nothing p a
          (each_two Meets (NotBelow under.Nothing) (λ m u b. Meets m u b × NotBelow under.Nothing m u b) (λ m u b g h. (g, h)) under.Nothing p a all
          (asked_not under.Nothing under.Nothing p a all e1))
          (asked_not under.Mut under.Nothing p a all e2)
      wanted_by None None None e1 e2 e3 =
          each_two (λ m u b. NotBelow under.Ref m u b × NotBelow under.Nothing m u b) (NotBelow under.Mut) (WantedMeets None)
          (λ m u b g h r. absurd (none_enough u (g.1 r) (h r) (g.0 r))) under.Nothing p a
          (each_two (NotBelow under.Ref) (NotBelow under.Nothing) (λ m u b. NotBelow under.Ref m u b × NotBelow under.Nothing m u b) (λ m u b g h. (g, h)) under.Nothing p a
          (asked_not under.Ref under.Nothing p a all e3) (asked_not under.Nothing under.Nothing p a all e1))
          (asked_not under.Mut under.Nothing p a all e2)

      wanted_meets : Each (WantedMeets (wanted kinds p a n)) under.Nothing p a
      wanted_meets =
          wanted_by (asked kinds n under.Nothing under.Nothing p a) (asked kinds n under.Mut under.Nothing p a) (asked kinds n under.Ref under.Nothing p a) refl refl refl

      -- and it is x where x isn't a borrow
      wanted_bare : (y : TypeTerm) → wanted kinds p a n ≡ Some y → is_borrow x ≡ false → x ≡ y
      wanted_bare y e h =
          elim (or_some (asked kinds n under.Nothing under.Nothing p a) (or_else (asked kinds n under.Mut under.Nothing p a) (asked kinds n under.Ref under.Nothing p a)) y e) [
            | inl q ↦ (asked_is under.Nothing under.Nothing p a y all q).1 h
            | inr q ↦ elim (or_some (asked kinds n under.Mut under.Nothing p a) (asked kinds n under.Ref under.Nothing p a) y q.1) [
              | inl r ↦ (asked_is under.Mut under.Nothing p a y all r).1 h
              | inr r ↦ (asked_is under.Ref under.Nothing p a y all r.1).1 h
            ]
          ]

  -- what is chosen where each parameter has its argument
  abbrev pub full : List TypeTerm → ℕ → Option TypeTerm
  full xs n = Some (argument_or xs n)

  mutual
    unfolding fits_below fit_all substitute substitute_all

    substituted : (xs : List TypeTerm) (u : Under) (t a : TypeTerm) → fits_below kinds (full xs) u t a ≡ true → below kinds u (substitute kinds xs t) ≡ a
    substituted xs u (Parameter n) a e = same_true (below kinds u (argument_or xs n)) a e
    substituted xs u (Of k ts) a e =
        let o = arguments_below kinds u k a in
        let p = both (is_some o) (fit_all kinds (full xs) ts (unwrap_or o NoTerms)) e in
        let q = some_of o p.0 in
        let r : substitute_all kinds xs ts ≡ q.0 = substituted_all xs ts q.0 (subst (λ v. fit_all kinds (full xs) ts (unwrap_or v NoTerms) ≡ true) q.1 p.1) in
        ap (λ us. below kinds u (Of k us)) r ∙ kind_made kinds u k a q.0 q.1
    substituted xs u (Ref t) a e = below_ref kinds u (substitute kinds xs t) ∙ substituted xs under.Ref t a e
    substituted xs u (Mut t) a e = below_mut kinds u (substitute kinds xs t) ∙ substituted xs (then_mut u) t a e
    substituted xs u (Uni t) a e =
        let o = unique_below kinds u a in
        let p = both (is_some o) (fits_below kinds (full xs) under.Nothing t (unwrap_or o never)) e in
        let q = some_of o p.0 in
        let r : substitute kinds xs t ≡ q.0 = substituted xs under.Nothing t q.0 (subst (λ v. fits_below kinds (full xs) under.Nothing t (unwrap_or v never) ≡ true) q.1 p.1) in
        ap (λ w. below kinds u (uni_of kinds w)) r ∙ unique_made kinds u a q.0 q.1

    substituted_all : (xs : List TypeTerm) (ts us : TypeTerms) → fit_all kinds (full xs) ts us ≡ true → substitute_all kinds xs ts ≡ us
    substituted_all xs NoTerms NoTerms e = refl
    substituted_all xs NoTerms (AndTerm a us) e = cc
    substituted_all xs (AndTerm t ts) NoTerms e = cc
    substituted_all xs (AndTerm t ts) (AndTerm a us) e =
        let p = both (fits_below kinds (full xs) under.Nothing t a) (fit_all kinds (full xs) ts us) e in
        ap (λ x. AndTerm x (substitute_all kinds xs ts)) (substituted xs under.Nothing t a p.0) ∙ ap (AndTerm a) (substituted_all xs ts us p.1)

  mutual
    unfolding fits_below fit_all substitute substitute_all

    fits_itself : (xs : List TypeTerm) (u : Under) (t a : TypeTerm) → below kinds u (substitute kinds xs t) ≡ a → fits_below kinds (full xs) u t a ≡ true
    fits_itself xs u (Parameter n) a e = ap (λ x. same_type x a) e ∙ same_refl a
    fits_itself xs u (Of k ts) a e =
        let us = substitute_all kinds xs ts in
        let q : arguments_below kinds u k a ≡ Some us = kind_given kinds u k a us e in
        ap (λ o. is_some o && fit_all kinds (full xs) ts (unwrap_or o NoTerms)) q ∙ fit_itself xs ts us refl
    fits_itself xs u (Ref t) a e = fits_itself xs under.Ref t a (sym (below_ref kinds u (substitute kinds xs t)) ∙ e)
    fits_itself xs u (Mut t) a e = fits_itself xs (then_mut u) t a (sym (below_mut kinds u (substitute kinds xs t)) ∙ e)
    fits_itself xs u (Uni t) a e =
        let w = substitute kinds xs t in
        let q : unique_below kinds u a ≡ Some w = unique_given kinds u a w e in
        ap (λ o. is_some o && fits_below kinds (full xs) under.Nothing t (unwrap_or o never)) q ∙ fits_itself xs under.Nothing t w refl

    fit_itself : (xs : List TypeTerm) (ts us : TypeTerms) → substitute_all kinds xs ts ≡ us → fit_all kinds (full xs) ts us ≡ true
    fit_itself xs NoTerms NoTerms e = refl
    fit_itself xs NoTerms (AndTerm a us) e = cc
    fit_itself xs (AndTerm t ts) NoTerms e = cc
    fit_itself xs (AndTerm t ts) (AndTerm a us) e =
        let p : substitute kinds xs t ≡ a = cc in
        let q : substitute_all kinds xs ts ≡ us = cc in
        and_both (fits_below kinds (full xs) under.Nothing t a) (fit_all kinds (full xs) ts us) (fits_itself xs under.Nothing t a p) (fit_itself xs ts us q)

  module _ (old : List (Option TypeTerm)) (p a : TypeTerm) where
    -- a filling of what is found, as the choice
    past : (xs : List TypeTerm) (n : ℕ) → length xs ≡ length old → slice_get old n ≡ None → argument_or xs n ≡ Parameter n
    past xs n l e = ap (λ o. unwrap_or o (Parameter n)) (slice_get_past xs n (omega (arith, past_end old n e)))

    chosen_filled : (new : List (Option TypeTerm)) (xs : List TypeTerm) (n : ℕ) (x : TypeTerm) (q : Option (Option TypeTerm)) → slice_get old n ≡ q → IsFilled (wanted kinds p a) old new → Fills new xs →
        chosen_at q (wanted kinds p a n) (Parameter n) ≡ Some x → full xs n ≡ Some x
    chosen_filled new xs n x (Some o) h f g e =
        let there : slice_get new n ≡ Some (Some x) = f.filled n o h ∙ ap Some e in
        ap (λ v. Some (unwrap_or v (Parameter n))) (g.agrees n x there)
    chosen_filled new xs n x None h f g e = ap Some (past xs n (g.places ∙ f.places) h) ∙ e

    pub matched_same : (new : List (Option TypeTerm)) → fits kinds old p a ≡ true → IsFilled (wanted kinds p a) old new → (xs : List TypeTerm) → Fills new xs → substitute kinds xs p ≡ a
    matched_same new e f xs g =
        let c = chosen kinds old p a in
        substituted xs under.Nothing p a (refit c (full xs) under.Nothing p a e
        (each_one (Met c) (Met (full xs)) (λ n u b m. (m.0, chosen_filled new xs n m.0 (slice_get old n) refl f g m.1, m.2)) under.Nothing p a (met c under.Nothing p a e)))

    -- what an argument list meets, with the argument of one parameter
    meets_full : (xs : List TypeTerm) (n : ℕ) → Each (Met (full xs)) under.Nothing p a → Each (Meets n (argument_or xs n)) under.Nothing p a
    meets_full xs n h =
        each_one (Met (full xs)) (Meets n (argument_or xs n))
        (λ m u b g r. let q : Some (argument_or xs n) ≡ Some g.0 = ap (λ k. Some (argument_or xs k)) (sym r) ∙ g.1 in
        let s : argument_or xs n ≡ g.0 = cc in ap (below kinds u) s ∙ g.2) under.Nothing p a h

    chosen_same : (xs : List TypeTerm) (n : ℕ) → chosen kinds old p a n ≡ full xs n → Each (Met (full xs)) under.Nothing p a → Each (λ m u b. m ≡ n → Met (chosen kinds old p a) m u b) under.Nothing p a
    chosen_same xs n e h =
        each_one (Met (full xs)) (λ m u b. m ≡ n → Met (chosen kinds old p a) m u b)
        (λ m u b g r. (g.0, ap (chosen kinds old p a) r ∙ e ∙ ap (full xs) (sym r) ∙ g.1, g.2)) under.Nothing p a h

    chosen_meets : (xs : List TypeTerm) (n : ℕ) (q : Option (Option TypeTerm)) → slice_get old n ≡ q → Fills old xs → Each (Met (full xs)) under.Nothing p a →
        Each (λ m u b. m ≡ n → Met (chosen kinds old p a) m u b) under.Nothing p a
    chosen_meets xs n (Some (Some t)) h g all =
        chosen_same xs n (ap (λ o. chosen_at o (wanted kinds p a n) (Parameter n)) h ∙ ap (λ o. Some (unwrap_or o (Parameter n))) (sym (g.agrees n t h))) all
    chosen_meets xs n (Some None) h g all =
        let x = argument_or xs n in
        let w = wanted kinds p a n in
        let c : chosen kinds old p a n ≡ w = ap (λ o. chosen_at o w (Parameter n)) h in
        each_one (WantedMeets n x w) (λ m u b. m ≡ n → Met (chosen kinds old p a) m u b)
        (λ m u b k r. let y = k r in (y.0, ap (chosen kinds old p a) r ∙ c ∙ y.1, y.2)) under.Nothing p a (wanted_meets n x p a (meets_full xs n all))
    chosen_meets xs n None h g all =
        chosen_same xs n (ap (λ o. chosen_at o (wanted kinds p a n) (Parameter n)) h ∙ ap Some (sym (past xs n g.places h))) all

    pub none_fits : fits kinds old p a ≡ false → NoneFits kinds old p a
    none_fits e = record {
      never_same = λ xs g h.
          let ok : fits_below kinds (full xs) under.Nothing p a ≡ true = fits_itself xs under.Nothing p a h in
          let all : Each (Met (full xs)) under.Nothing p a = met (full xs) under.Nothing p a ok in
          let c = chosen kinds old p a in
          let yes : fits kinds old p a ≡ true = refit (full xs) c under.Nothing p a ok (each_of (Met c) under.Nothing p a (λ n. chosen_meets xs n (slice_get old n) refl g all)) in
          let no_way : false ≡ true = sym e ∙ yes in
          cc;
    }

    bare_at : (new : List (Option TypeTerm)) (xs : List TypeTerm) (n : ℕ) (t x : TypeTerm) (q : Option (Option TypeTerm)) → slice_get old n ≡ q → IsFilled (wanted kinds p a) old new → Fills old xs → substitute kinds xs p ≡ a →
        slice_get new n ≡ Some (Some t) → slice_get xs n ≡ Some x → is_borrow x ≡ false → x ≡ t
    bare_at new xs n t x (Some (Some s)) h f g e i j b =
        let one : Some (Some s) ≡ Some (Some t) = sym (f.filled n (Some s) h) ∙ i in
        let two : Some x ≡ Some s = sym j ∙ g.agrees n s h in
        cc
    bare_at new xs n t x (Some None) h f g e i j b =
        let r : argument_or xs n ≡ x = ap (λ o. unwrap_or o (Parameter n)) j in
        let w : Some (wanted kinds p a n) ≡ Some (Some t) = sym (f.filled n None h) ∙ i in
        let v : wanted kinds p a n ≡ Some t = cc in
        let all = met (full xs) under.Nothing p a (fits_itself xs under.Nothing p a e) in
        sym r ∙ wanted_bare n (argument_or xs n) p a (meets_full xs n all) t v (ap is_borrow r ∙ b)
    bare_at new xs n t x None h f g e i j b =
        let gone : slice_get new n ≡ None = slice_get_past new n (omega (arith, f.places, past_end old n h)) in
        let never_so : None ≡ Some (Some t) = sym gone ∙ i in
        cc

    pub matched : (new : List (Option TypeTerm)) → fits kinds old p a ≡ true → new ≡ filled kinds old p a → IsMatched kinds old new p a
    matched new e h =
        let f = is_filled (wanted kinds p a) old new h in
        record {
          same = matched_same new e f;
          kept = λ n t h. f.filled n (Some t) h;
          bare = λ xs g h n t x i j b. bare_at new xs n t x (slice_get old n) refl f g h i j b;
        }
