-- A column that is opened at a case.
use Rattle.std.proofs.Common.{◌≡◌, ℕ, zero, suc, ◌+◌, Bool, true, false, cond, eqb, ◌||◌, List, [], ◌∷◌, ◌++◌, length, replicate, slice_get, Option, Some, None, inl, inr, ⊎_elim, refl, sym, ap, ◌∙◌, subst, arith}
use Rattle.std.proofs.lemmas.Bool.{eqb-true, eq-eqb, false≢true}
use Rattle.std.proofs.lemmas.List.{length-append, length-replicate}
use Rattle.ink_matrix.specs.Rows.{Shape, Any, Literal, Case, Kind, Literals, Cases, Row, some_of, gather, is_case, opened, open_of, open_rows, names_any}
use Rattle.ink_matrix.specs.Cover.{Leaf, Plain, Made, Values, NoValue, And, both, Fits, FitsAll, SomeOf, EachOf, Matches, MatchesAll, AnyMatches, EachPart, Suits, SuitsAll, SuitRows, Covered, Follows, IsMissing}
use Rattle.ink_matrix.specs.declared.pattern.Choice.{Choice}
use Rattle.ink_matrix.specs.declared.pattern.Choice.TheVariants as choice
use Rattle.ink_matrix.proofs.Skips.{any_matches, any_append, any_left, any_right, suit_append}

abbrev count : Values → ℕ
count NoValue = 0
count (And v vs) = suc (count vs)

fits_count : (k : ℕ → Kind) (ds fs : List ℕ) (us : Values) → FitsAll k ds fs us → count us ≡ length fs
fits_count k [] [] NoValue s = refl
fits_count k [] (f ∷ fs) NoValue s = absurd s
fits_count k (d ∷ ds) fs NoValue s = absurd s
fits_count k [] fs (And u us) s = absurd s
fits_count k (d ∷ ds) [] (And u us) s = absurd s
fits_count k (d ∷ ds) (f ∷ fs) (And u us) s = ap suc (fits_count k ds fs us s.1)

fits_join : (k : ℕ → Kind) (e : ℕ) (fs ds ts : List ℕ) (us vs : Values) → FitsAll k (replicate (length fs) e) fs us → FitsAll k ds ts vs → FitsAll k (replicate (length fs) e ++ ds) (fs ++ ts) (both us vs)
fits_join k e [] ds ts NoValue vs p q = q
fits_join k e [] ds ts (And u us) vs p q = absurd p
fits_join k e (f ∷ fs) ds ts NoValue vs p q = absurd p
fits_join k e (f ∷ fs) ds ts (And u us) vs p q = (p.0, fits_join k e fs ds ts us vs p.1 q)

fits_split : (k : ℕ → Kind) (e : ℕ) (fs ds ts : List ℕ) (vs : Values) → FitsAll k (replicate (length fs) e ++ ds) (fs ++ ts) vs → (us : Values) × (ws : Values) × (vs ≡ both us ws) × FitsAll k (replicate (length fs) e) fs us × FitsAll k ds ts ws
fits_split k e [] ds ts vs h = (NoValue, vs, refl, tt, h)
fits_split k e (f ∷ fs) ds ts NoValue h = absurd h
fits_split k e (f ∷ fs) ds ts (And v vs) h = let r = fits_split k e fs ds ts vs h.1 in (And v r.0, r.1, ap (λ x. And v x) r.2, (h.0, r.3), r.4)

module _ (a : Option ℕ → List Shape) where
  match_split : (qs ps : Row) (us vs : Values) → length qs ≡ count us → MatchesAll a (both us vs) (qs ++ ps) → MatchesAll a us qs × MatchesAll a vs ps
  match_split [] ps NoValue vs e h = (tt, h)
  match_split [] ps (And u us) vs e h = absurd (omega arith)
  match_split (q ∷ qs) ps NoValue vs e h = absurd (omega arith)
  match_split (q ∷ qs) ps (And u us) vs e h = let r = match_split qs ps us vs (omega arith) h.1 in ((h.0, r.0), r.1)

  match_join : (qs ps : Row) (us vs : Values) → MatchesAll a us qs → MatchesAll a vs ps → MatchesAll a (both us vs) (qs ++ ps)
  match_join [] ps NoValue vs p q = q
  match_join [] ps (And u us) vs p q = absurd p
  match_join (q ∷ qs) ps NoValue vs p r = absurd p
  match_join (q ∷ qs) ps (And u us) vs p r = (p.0, match_join qs ps us vs p.1 r)

  part_size : (f : ℕ → Shape → Type 0) (fs : List ℕ) (qs : Row) → EachPart f a fs qs → length qs ≡ length fs
  part_size f [] [] s = refl
  part_size f [] (q ∷ qs) s = absurd s
  part_size f (t ∷ ts) [] s = absurd s
  part_size f (t ∷ ts) (q ∷ qs) s = ap suc (part_size f ts qs s.1)

  module _ (k : ℕ → Kind) (none : a None ≡ Any ∷ []) where
    anys_match : (us : Values) → MatchesAll a us (replicate (count us) None)
    anys_match NoValue = tt
    anys_match (And u us) = (subst (λ x. SomeOf (λ s. Matches a u s) x) (sym none) (inl (any_matches a u)), anys_match us)

    any_suits : (e t : ℕ) → Suits k a e t Any
    any_suits zero t = tt
    any_suits (suc e) t = tt

    anys_suit : (e : ℕ) (fs : List ℕ) → EachPart (λ u s. Suits k a e u s) a fs (replicate (length fs) None)
    anys_suit e [] = tt
    anys_suit e (f ∷ fs) = (subst (λ x. EachOf (λ s. Suits k a e f s) x) (sym none) (any_suits e f, tt), anys_suit e fs)

    suits_join : (e : ℕ) (fs ds ts : List ℕ) (qs ps : Row) → EachPart (λ u s. Suits k a e u s) a fs qs → SuitsAll k a ds ts ps → SuitsAll k a (replicate (length fs) e ++ ds) (fs ++ ts) (qs ++ ps)
    suits_join e [] ds ts [] ps p q = q
    suits_join e [] ds ts (r ∷ qs) ps p q = absurd p
    suits_join e (f ∷ fs) ds ts [] ps p q = absurd p
    suits_join e (f ∷ fs) ds ts (r ∷ qs) ps p q = (p.0, suits_join e fs ds ts qs ps p.1 q)

    module _ (t c e : ℕ) (cs : List (List ℕ)) (fs : List ℕ) (kt : k t ≡ Cases cs) (at : slice_get cs c ≡ Some fs) where
      -- the parts of a pattern of this case
      same_fields : (b : ℕ) (ds : List (List ℕ)) (gs : List ℕ) → k t ≡ Cases ds → slice_get ds b ≡ Some gs → b ≡ c → gs ≡ fs
      same_fields b ds gs h g i =
          let j : Cases ds ≡ Cases cs = sym h ∙ kt in
          let l : ds ≡ cs = cc in
          let o : Some gs ≡ Some fs = sym g ∙ (ap (λ x. slice_get x b) l ∙ (ap (λ x. slice_get cs x) i ∙ at)) in
          cc

      case_suits : (b : ℕ) (qs : Row) → b ≡ c → Suits k a (suc e) t (Case b qs) → EachPart (λ u s. Suits k a e u s) a fs qs
      case_suits b qs i s = subst (λ x. EachPart (λ u y. Suits k a e u y) a x qs) (same_fields b s.0 s.1 s.2 s.3 i) s.4

      module _ (ds ts : List ℕ) where
        open_case_suits : (b : Bool) (d : ℕ) (qs ps : Row) → eqb d c ≡ b → Suits k a (suc e) t (Case d qs) → SuitsAll k a ds ts ps → SuitRows k a (replicate (length fs) e ++ ds) (fs ++ ts) (cond b ((qs ++ ps) ∷ []) [])
        open_case_suits true d qs ps i s p = (suits_join e fs ds ts qs ps (case_suits d qs (eqb-true d c i) s) p, tt)
        open_case_suits false d qs ps i s p = tt

        open_shapes_suit : (ps : Row) (ss : List Shape) → SuitsAll k a ds ts ps → EachOf (λ s. Suits k a (suc e) t s) ss → SuitRows k a (replicate (length fs) e ++ ds) (fs ++ ts) (gather (opened c (replicate (length fs) None) ps) ss)
        open_shapes_suit ps [] p s = tt
        open_shapes_suit ps (Any ∷ ss) p s = (suits_join e fs ds ts (replicate (length fs) None) ps (anys_suit e fs) p, open_shapes_suit ps ss p s.1)
        open_shapes_suit ps (Literal n ∷ ss) p s = open_shapes_suit ps ss p s.1
        open_shapes_suit ps (Case d qs ∷ ss) p s = suit_append a k (replicate (length fs) e ++ ds) (fs ++ ts) (cond (eqb d c) ((qs ++ ps) ∷ []) []) (gather (opened c (replicate (length fs) None) ps) ss) (open_case_suits (eqb d c) d qs ps refl s.0 p) (open_shapes_suit ps ss p s.1)

        open_suits : (r : Row) → SuitsAll k a (suc e ∷ ds) (t ∷ ts) r → SuitRows k a (replicate (length fs) e ++ ds) (fs ++ ts) (open_of a c (length fs) r)
        open_suits [] s = absurd s
        open_suits (p ∷ ps) s = open_shapes_suit ps (a p) s.1 s.0

        opens_suit : (rs : List Row) → SuitRows k a (suc e ∷ ds) (t ∷ ts) rs → SuitRows k a (replicate (length fs) e ++ ds) (fs ++ ts) (open_rows a c (length fs) rs)
        opens_suit [] s = tt
        opens_suit (r ∷ rs) s = suit_append a k (replicate (length fs) e ++ ds) (fs ++ ts) (open_of a c (length fs) r) (open_rows a c (length fs) rs) (open_suits r s.0) (opens_suit rs s.1)

        module _ (us vs : Values) (n : count us ≡ length fs) where
          abbrev Hits : List Shape → Row → Type 0
          Hits ss ps = SomeOf (λ s. Matches a (Made c us) s) ss × MatchesAll a vs ps

          case_sound : (b : Bool) (d : ℕ) (qs ps : Row) → eqb d c ≡ b → Suits k a (suc e) t (Case d qs) → AnyMatches a (cond b ((qs ++ ps) ∷ []) []) (both us vs) → Matches a (Made c us) (Case d qs) × MatchesAll a vs ps
          case_sound true d qs ps i s h =
              let q = part_size (λ u y. Suits k a e u y) fs qs (case_suits d qs (eqb-true d c i) s) in
              let m = match_split qs ps us vs (q ∙ sym n) (⊎_elim (λ x. x) (λ y. absurd y) h) in
              ((eqb-true d c i, m.0), m.1)
          case_sound false d qs ps i s h = absurd h

          shapes_sound : (ps : Row) (ss : List Shape) → EachOf (λ s. Suits k a (suc e) t s) ss → AnyMatches a (gather (opened c (replicate (length fs) None) ps) ss) (both us vs) → Hits ss ps
          shapes_sound ps [] s h = absurd h
          shapes_sound ps (Any ∷ ss) s h = ⊎_elim (λ x. (inl tt, (match_split (replicate (length fs) None) ps us vs (length-replicate (length fs) None ∙ sym n) x).1)) (λ y. (let r = shapes_sound ps ss s.1 y in (inr r.0, r.1))) h
          shapes_sound ps (Literal m ∷ ss) s h = let r = shapes_sound ps ss s.1 h in (inr r.0, r.1)
          shapes_sound ps (Case d qs ∷ ss) s h =
              ⊎_elim (λ x. (let r = case_sound (eqb d c) d qs ps refl s.0 x in (inl r.0, r.1))) (λ y. (let r = shapes_sound ps ss s.1 y in (inr r.0, r.1)))
              (any_append a (cond (eqb d c) ((qs ++ ps) ∷ []) []) (gather (opened c (replicate (length fs) None) ps) ss) (both us vs) h)

          open_sound : (r : Row) → SuitsAll k a (suc e ∷ ds) (t ∷ ts) r → AnyMatches a (open_of a c (length fs) r) (both us vs) → MatchesAll a (And (Made c us) vs) r
          open_sound [] s h = absurd h
          open_sound (p ∷ ps) s h = shapes_sound ps (a p) s.0 h

          opens_sound : (rs : List Row) → SuitRows k a (suc e ∷ ds) (t ∷ ts) rs → AnyMatches a (open_rows a c (length fs) rs) (both us vs) → AnyMatches a rs (And (Made c us) vs)
          opens_sound [] s h = h
          opens_sound (r ∷ rs) s h = ⊎_elim (λ x. inl (open_sound r s.0 x)) (λ y. inr (opens_sound rs s.1 y)) (any_append a (open_of a c (length fs) r) (open_rows a c (length fs) rs) (both us vs) h)

          shapes_back : (ps : Row) (ss : List Shape) → SomeOf (λ s. Matches a (Made c us) s) ss → MatchesAll a vs ps → AnyMatches a (gather (opened c (replicate (length fs) None) ps) ss) (both us vs)
          shapes_back ps [] h m = absurd h
          shapes_back ps (Any ∷ ss) h m = ⊎_elim (λ x. inl (match_join (replicate (length fs) None) ps us vs (subst (λ y. MatchesAll a us (replicate y None)) n (anys_match us)) m)) (λ y. inr (shapes_back ps ss y m)) h
          shapes_back ps (Literal l ∷ ss) h m = ⊎_elim (λ x. absurd x) (λ y. shapes_back ps ss y m) h
          shapes_back ps (Case d qs ∷ ss) h m =
              ⊎_elim
              (λ x. any_left a (cond (eqb d c) ((qs ++ ps) ∷ []) []) (gather (opened c (replicate (length fs) None) ps) ss) (both us vs) (subst (λ b. AnyMatches a (cond b ((qs ++ ps) ∷ []) []) (both us vs)) (sym (eq-eqb d c x.0)) (inl (match_join qs ps us vs x.1 m))))
              (λ y. any_right a (cond (eqb d c) ((qs ++ ps) ∷ []) []) (gather (opened c (replicate (length fs) None) ps) ss) (both us vs) (shapes_back ps ss y m)) h

          open_back : (r : Row) → MatchesAll a (And (Made c us) vs) r → AnyMatches a (open_of a c (length fs) r) (both us vs)
          open_back [] h = absurd h
          open_back (p ∷ ps) h = shapes_back ps (a p) h.0 h.1

          opens_back : (rs : List Row) → AnyMatches a rs (And (Made c us) vs) → AnyMatches a (open_rows a c (length fs) rs) (both us vs)
          opens_back [] h = h
          opens_back (r ∷ rs) h = ⊎_elim (λ x. any_left a (open_of a c (length fs) r) (open_rows a c (length fs) rs) (both us vs) (open_back r x)) (λ y. any_right a (open_of a c (length fs) r) (open_rows a c (length fs) rs) (both us vs) (opens_back rs y)) h

    -- a row that names a case shows that the column is deep and its type has one
    abbrev Named : ℕ → ℕ → Type 0
    Named d t = (e : ℕ) × (c : ℕ) × (cs : List (List ℕ)) × (fs : List ℕ) × (d ≡ suc e) × (k t ≡ Cases cs) × (slice_get cs c ≡ Some fs)

    named_case : (d t c : ℕ) (qs : Row) → Suits k a d t (Case c qs) → Named d t
    named_case zero t c qs s = absurd s
    named_case (suc e) t c qs s = (e, c, s.0, s.1, refl, s.2, s.3)

    named_shapes : (d t : ℕ) (ss : List Shape) → some_of is_case ss ≡ true → EachOf (λ s. Suits k a d t s) ss → Named d t
    named_shapes d t [] n s = absurd (false≢true n)
    named_shapes d t (Any ∷ ss) n s = named_shapes d t ss n s.1
    named_shapes d t (Literal m ∷ ss) n s = named_shapes d t ss n s.1
    named_shapes d t (Case c qs ∷ ss) n s = named_case d t c qs s.0

    named_either : (b : Bool) (d t : ℕ) (ss : List Shape) (more : Bool) → some_of is_case ss ≡ b → b || more ≡ true → EachOf (λ s. Suits k a d t s) ss → (more ≡ true → Named d t) → Named d t
    named_either true d t ss more e n s h = named_shapes d t ss e s
    named_either false d t ss more e n s h = h n

    named : (d t : ℕ) (ds ts : List ℕ) (rs : List Row) → names_any a rs ≡ true → SuitRows k a (d ∷ ds) (t ∷ ts) rs → Named d t
    named d t ds ts [] n s = absurd (false≢true n)
    named d t ds ts ([] ∷ rs) n s = absurd s.0
    named d t ds ts ((p ∷ ps) ∷ rs) n s = named_either (some_of is_case (a p)) d t (a p) (names_any a rs) refl n s.0.0 (λ x. named d t ds ts rs x s.1)

    module _ (t : ℕ) (ts : List ℕ) (cs : List (List ℕ)) (rs : List Row) (kt : k t ≡ Cases cs) (n : names_any a rs ≡ true) where
      no_leaf : (d : ℕ) → Fits k d t Leaf → Named d t → ⊥
      no_leaf zero f m = (let q : 0 ≡ suc m.0 = m.4 in omega arith)
      no_leaf (suc e) f m =
          let q : Cases [] ≡ Cases m.2 = sym f ∙ m.5 in
          let l : m.2 ≡ [] = cc in
          let o : slice_get [] m.1 ≡ Some m.3 = ap (λ x. slice_get x m.1) (sym l) ∙ m.6 in
          cc

      no_plain : (d b : ℕ) → Fits k d t (Plain b) → ⊥
      no_plain zero b f = f
      no_plain (suc e) b f = let bad : Literals ≡ Cases cs = sym f ∙ kt in cc

      made : (d c : ℕ) (ds : List ℕ) (us vs : Values) → ((b : ℕ) (gs : List ℕ) → slice_get cs b ≡ Some gs → Covered k a (gs ++ ts) (open_rows a b (length gs) rs)) → SuitRows k a (d ∷ ds) (t ∷ ts) rs → Fits k d t (Made c us) → FitsAll k ds ts vs → AnyMatches a rs (And (Made c us) vs)
      made zero c ds us vs h s f g = absurd f
      made (suc e) c ds us vs h s f g =
          let gs = f.1 in
          let same : Cases cs ≡ Cases f.0 = sym kt ∙ f.2 in
          let l : f.0 ≡ cs = cc in
          let at : slice_get cs c ≡ Some gs = ap (λ x. slice_get x c) (sym l) ∙ f.3 in
          opens_sound t c e cs gs kt at ds ts us vs (fits_count k (replicate (length gs) e) gs us f.4) rs s
          (h c gs at (replicate (length gs) e ++ ds) (opens_suit t c e cs gs kt at ds ts rs s) (both us vs) (fits_join k e gs ds ts us vs f.4 g))

      pub covered_cases : ((c : ℕ) (fs : List ℕ) → slice_get cs c ≡ Some fs → Covered k a (fs ++ ts) (open_rows a c (length fs) rs)) → Covered k a (t ∷ ts) rs
      covered_cases h [] s NoValue f = absurd f
      covered_cases h [] s (And v vs) f = absurd f
      covered_cases h (d ∷ ds) s NoValue f = absurd f
      covered_cases h (d ∷ ds) s (And Leaf vs) f = absurd (no_leaf d f.0 (named d t ds ts rs n s))
      covered_cases h (d ∷ ds) s (And (Plain b) vs) f = absurd (no_plain d b f.0)
      covered_cases h (d ∷ ds) s (And (Made c us) vs) f = made d c ds us vs h s f.0 f.1

      gap_at : (e c : ℕ) (ds fs : List ℕ) (m : List Choice) → slice_get cs c ≡ Some fs → length ds ≡ length ts → SuitRows k a (suc e ∷ ds) (t ∷ ts) rs → IsMissing k a (fs ++ ts) (open_rows a c (length fs) rs) m → (vs : Values) × FitsAll k (suc e ∷ ds) (t ∷ ts) vs × Follows (choice.Case c ∷ m) vs × (AnyMatches a rs vs → ⊥)
      gap_at e c ds fs m at l s g =
          let same : length (replicate (length fs) e ++ ds) ≡ length (fs ++ ts) = length-append (replicate (length fs) e) ds ∙ (ap (λ x. x + length ds) (length-replicate (length fs) e) ∙ (ap (λ x. length fs + x) l ∙ sym (length-append fs ts))) in
          let w = g (replicate (length fs) e ++ ds) same (opens_suit t c e cs fs kt at ds ts rs s) in
          let p = fits_split k e fs ds ts w.0 w.1 in
          let us = p.0 in let vs = p.1 in
          let num : count us ≡ length fs = fits_count k (replicate (length fs) e) fs us p.3 in
          let hit : Follows m (both us vs) = subst (λ x. Follows m x) p.2 w.2 in (
            And (Made c us) vs,
            ((cs, fs, kt, at, p.3), p.4),
            (refl, hit),
            λ h. w.3 (subst (λ x. AnyMatches a (open_rows a c (length fs) rs) x) (sym p.2) (opens_back t c e cs fs kt at ds ts us vs num rs h)),
          )

      pub missing_case : (c : ℕ) (fs : List ℕ) (m : List Choice) → slice_get cs c ≡ Some fs → IsMissing k a (fs ++ ts) (open_rows a c (length fs) rs) m → IsMissing k a (t ∷ ts) rs (choice.Case c ∷ m)
      missing_case c fs m at g [] l s = absurd (omega arith)
      missing_case c fs m at g (d ∷ ds) l s =
          let q = named d t ds ts rs n s in
          let s' : SuitRows k a (suc q.0 ∷ ds) (t ∷ ts) rs = subst (λ x. SuitRows k a (x ∷ ds) (t ∷ ts) rs) q.4 s in
          let w = gap_at q.0 c ds fs m at (omega arith) s' g in
          (w.0, subst (λ x. FitsAll k (x ∷ ds) (t ∷ ts) w.0) (sym q.4) w.1, w.2, w.3)
