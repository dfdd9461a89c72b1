-- A column that is skipped: the rows with `_` there count.
use Rattle.std.proofs.Common.{◌≡◌, ℕ, zero, suc, ◌+◌, ◌≤◌, Bool, true, false, cond, ◌&&◌, ◌||◌, List, [], ◌∷◌, ◌++◌, length, replicate, Option, ◌⊎◌, inl, inr, ⊎_elim, refl, sym, ◌∙◌, subst, arith}
use Rattle.std.proofs.lemmas.Bool.{false≢true}
use Rattle.ink_matrix.specs.Rows.{Shape, Any, Literal, Case, Kind, Literals, Cases, Row, some_of, is_any, is_case, is_whole, rest_of, rest_rows, names_any}
use Rattle.ink_matrix.specs.Cover.{Value, Leaf, Plain, Made, Values, NoValue, And, Fits, FitsAll, SomeOf, EachOf, Matches, MatchesAll, AnyMatches, Suits, SuitsAll, SuitRows, Covered, Follows, IsMissing}
use Rattle.ink_matrix.specs.declared.pattern.Choice.{Choice}
use Rattle.ink_matrix.specs.declared.pattern.Choice.TheVariants as choice

module _ (a : Option ℕ → List Shape) where
  pub any_append : (xs ys : List Row) (vs : Values) → AnyMatches a (xs ++ ys) vs → AnyMatches a xs vs ⊎ AnyMatches a ys vs
  any_append [] ys vs h = inr h
  any_append (x ∷ xs) ys vs h = ⊎_elim (λ p. inl (inl p)) (λ q. ⊎_elim (λ r. inl (inr r)) (λ s. inr s) (any_append xs ys vs q)) h

  pub any_left : (xs ys : List Row) (vs : Values) → AnyMatches a xs vs → AnyMatches a (xs ++ ys) vs
  any_left [] ys vs h = absurd h
  any_left (x ∷ xs) ys vs h = ⊎_elim (λ p. inl p) (λ q. inr (any_left xs ys vs q)) h

  pub any_right : (xs ys : List Row) (vs : Values) → AnyMatches a ys vs → AnyMatches a (xs ++ ys) vs
  any_right [] ys vs h = h
  any_right (x ∷ xs) ys vs h = inr (any_right xs ys vs h)

  pub suit_append : (k : ℕ → Kind) (ds ts : List ℕ) (xs ys : List Row) → SuitRows k a ds ts xs → SuitRows k a ds ts ys → SuitRows k a ds ts (xs ++ ys)
  suit_append k ds ts [] ys p q = q
  suit_append k ds ts (x ∷ xs) ys p q = (p.0, suit_append k ds ts xs ys p.1 q)

  pub any_matches : (v : Value) → Matches a v Any
  any_matches Leaf = tt
  any_matches (Plain n) = tt
  any_matches (Made c vs) = tt

  -- `_` is an alternative
  pub some_any : (ss : List Shape) (v : Value) → some_of is_any ss ≡ true → SomeOf (λ s. Matches a v s) ss
  some_any [] v e = absurd (false≢true e)
  some_any (Any ∷ ss) v e = inl (any_matches v)
  some_any (Literal n ∷ ss) v e = inr (some_any ss v e)
  some_any (Case c ps ∷ ss) v e = inr (some_any ss v e)

  rest_kept : (b : Bool) (p : Option ℕ) (ps : Row) (v : Value) (vs : Values) → some_of is_any (a p) ≡ b → AnyMatches a (cond b (ps ∷ []) []) vs → MatchesAll a (And v vs) (p ∷ ps)
  rest_kept true p ps v vs e h = ⊎_elim (λ x. (some_any (a p) v e, x)) (λ x. absurd x) h
  rest_kept false p ps v vs e h = absurd h

  rest_sound : (r : Row) (v : Value) (vs : Values) → AnyMatches a (rest_of a r) vs → MatchesAll a (And v vs) r
  rest_sound [] v vs h = absurd h
  rest_sound (p ∷ ps) v vs h = rest_kept (some_of is_any (a p)) p ps v vs refl h

  rests_sound : (rs : List Row) (v : Value) (vs : Values) → AnyMatches a (rest_rows a rs) vs → AnyMatches a rs (And v vs)
  rests_sound [] v vs h = h
  rests_sound (r ∷ rs) v vs h = ⊎_elim (λ p. inl (rest_sound r v vs p)) (λ q. inr (rests_sound rs v vs q)) (any_append (rest_of a r) (rest_rows a rs) vs h)

  -- the alternatives but `_` don't match v
  abbrev IsApart : Value → Shape → Type 0
  IsApart v Any = Unit {0}
  IsApart v (Literal n) = Matches a v (Literal n) → ⊥
  IsApart v (Case c ps) = Matches a v (Case c ps) → ⊥

  abbrev Apart : Value → Row → Type 0
  Apart v [] = Unit {0}
  Apart v (p ∷ ps) = EachOf (λ s. IsApart v s) (a p)

  abbrev ApartAll : Value → List Row → Type 0
  ApartAll v [] = Unit {0}
  ApartAll v (r ∷ rs) = Apart v r × ApartAll v rs

  some_back : (ss : List Shape) (v : Value) → EachOf (λ s. IsApart v s) ss → SomeOf (λ s. Matches a v s) ss → some_of is_any ss ≡ true
  some_back [] v p h = absurd h
  some_back (Any ∷ ss) v p h = refl
  some_back (Literal n ∷ ss) v p h = ⊎_elim (λ x. absurd (p.0 x)) (λ y. some_back ss v p.1 y) h
  some_back (Case c ps ∷ ss) v p h = ⊎_elim (λ x. absurd (p.0 x)) (λ y. some_back ss v p.1 y) h

  rest_back : (r : Row) (v : Value) (vs : Values) → Apart v r → MatchesAll a (And v vs) r → AnyMatches a (rest_of a r) vs
  rest_back [] v vs p h = absurd h
  rest_back (q ∷ ps) v vs p h = subst (λ b. AnyMatches a (cond b (ps ∷ []) []) vs) (sym (some_back (a q) v p h.0)) (inl h.1)

  rests_back : (rs : List Row) (v : Value) (vs : Values) → ApartAll v rs → AnyMatches a rs (And v vs) → AnyMatches a (rest_rows a rs) vs
  rests_back [] v vs p h = h
  rests_back (r ∷ rs) v vs p h = ⊎_elim (λ x. any_left (rest_of a r) (rest_rows a rs) vs (rest_back r v vs p.0 x)) (λ y. any_right (rest_of a r) (rest_rows a rs) vs (rests_back rs v vs p.1 y)) h

  module _ (k : ℕ → Kind) where
    rest_suited : (b : Bool) (ds ts : List ℕ) (ps : Row) → SuitsAll k a ds ts ps → SuitRows k a ds ts (cond b (ps ∷ []) [])
    rest_suited true ds ts ps s = (s, tt)
    rest_suited false ds ts ps s = tt

    rest_suits : (d t : ℕ) (ds ts : List ℕ) (r : Row) → SuitsAll k a (d ∷ ds) (t ∷ ts) r → SuitRows k a ds ts (rest_of a r)
    rest_suits d t ds ts [] s = absurd s
    rest_suits d t ds ts (p ∷ ps) s = rest_suited (some_of is_any (a p)) ds ts ps s.1

    rests_suit : (d t : ℕ) (ds ts : List ℕ) (rs : List Row) → SuitRows k a (d ∷ ds) (t ∷ ts) rs → SuitRows k a ds ts (rest_rows a rs)
    rests_suit d t ds ts [] s = tt
    rests_suit d t ds ts (r ∷ rs) s = suit_append k ds ts (rest_of a r) (rest_rows a rs) (rest_suits d t ds ts r s.0) (rests_suit d t ds ts rs s.1)

    pub covered_rest : (t : ℕ) (ts : List ℕ) (rs : List Row) → Covered k a ts (rest_rows a rs) → Covered k a (t ∷ ts) rs
    covered_rest t ts rs h [] s NoValue f = absurd f
    covered_rest t ts rs h [] s (And v vs) f = absurd f
    covered_rest t ts rs h (d ∷ ds) s NoValue f = absurd f
    covered_rest t ts rs h (d ∷ ds) s (And v vs) f = rests_sound rs v vs (h ds (rests_suit d t ds ts rs s) vs f.1)

    -- some value of a type
    abbrev pub fills : (ℕ → Value) → List ℕ → Values
    fills g [] = NoValue
    fills g (f ∷ fs) = And (g f) (fills g fs)

    abbrev pub fill_kind : Kind → (ℕ → Value) → Value
    fill_kind Literals g = Plain 0
    fill_kind (Cases []) g = Leaf
    fill_kind (Cases (fs ∷ cs)) g = Made 0 (fills g fs)

    abbrev pub fill : ℕ → ℕ → Value
    fill zero t = Leaf
    fill (suc d) t = fill_kind (k t) (λ f. fill d f)

    fills_fit : (d : ℕ) (g : ℕ → Value) → ((t : ℕ) → Fits k d t (g t)) → (fs : List ℕ) → FitsAll k (replicate (length fs) d) fs (fills g fs)
    fills_fit d g h [] = tt
    fills_fit d g h (f ∷ fs) = (h f, fills_fit d g h fs)

    fill_kind_fits : (d t : ℕ) (b : Kind) → k t ≡ b → ((f : ℕ) → Fits k d f (fill d f)) → Fits k (suc d) t (fill_kind b (λ f. fill d f))
    fill_kind_fits d t Literals e h = e
    fill_kind_fits d t (Cases []) e h = e
    fill_kind_fits d t (Cases (fs ∷ cs)) e h = (fs ∷ cs, fs, e, refl, fills_fit d (λ f. fill d f) h fs)

    pub fill_fits : (d t : ℕ) → Fits k d t (fill d t)
    fill_fits zero t = tt
    fill_fits (suc d) t = fill_kind_fits d t (k t) refl (λ f. fill_fits d f)

    literal_suits : (d t n : ℕ) → Suits k a d t (Literal n) → k t ≡ Literals
    literal_suits zero t n s = absurd s
    literal_suits (suc d) t n s = s

    -- where no row names a case of a type with cases
    unnamed_shapes : (d t : ℕ) (cs : List (List ℕ)) (v : Value) (ss : List Shape) → k t ≡ Cases cs → some_of is_case ss ≡ false → EachOf (λ s. Suits k a d t s) ss → EachOf (λ s. IsApart v s) ss
    unnamed_shapes d t cs v [] e n s = tt
    unnamed_shapes d t cs v (Any ∷ ss) e n s = (tt, unnamed_shapes d t cs v ss e n s.1)
    unnamed_shapes d t cs v (Literal m ∷ ss) e n s = ((λ h. (let bad : Literals ≡ Cases cs = sym (literal_suits d t m s.0) ∙ e in cc)), unnamed_shapes d t cs v ss e n s.1)
    unnamed_shapes d t cs v (Case c ps ∷ ss) e n s = absurd (false≢true (sym n))

    or_left : (x y : Bool) → x || y ≡ false → x ≡ false
    or_left true y e = e
    or_left false y e = refl

    or_right : (x y : Bool) → x || y ≡ false → y ≡ false
    or_right true y e = absurd (false≢true (sym e))
    or_right false y e = e

    unnamed : (d t : ℕ) (ds ts : List ℕ) (cs : List (List ℕ)) (v : Value) (rs : List Row) → k t ≡ Cases cs → names_any a rs ≡ false → SuitRows k a (d ∷ ds) (t ∷ ts) rs → ApartAll v rs
    unnamed d t ds ts cs v [] e n s = tt
    unnamed d t ds ts cs v ([] ∷ rs) e n s = absurd s.0
    unnamed d t ds ts cs v ((p ∷ ps) ∷ rs) e n s = (unnamed_shapes d t cs v (a p) e (or_left (some_of is_case (a p)) (names_any a rs) n) s.0.0, unnamed d t ds ts cs v rs e (or_right (some_of is_case (a p)) (names_any a rs) n) s.1)

    -- a number that no row names
    abbrev top_of : List Shape → ℕ
    top_of [] = 0
    top_of (Any ∷ ss) = top_of ss
    top_of (Literal n ∷ ss) = suc n + top_of ss
    top_of (Case c ps ∷ ss) = top_of ss

    abbrev top : List Row → ℕ
    top [] = 0
    top ([] ∷ rs) = top rs
    top ((p ∷ ps) ∷ rs) = top_of (a p) + top rs

    unlisted_shapes : (b : ℕ) (ss : List Shape) → top_of ss ≤ b → EachOf (λ s. IsApart (Plain b) s) ss
    unlisted_shapes b [] h = tt
    unlisted_shapes b (Any ∷ ss) h = (tt, unlisted_shapes b ss h)
    unlisted_shapes b (Literal m ∷ ss) h = ((λ q. (let p : m ≡ b = q in omega arith)), unlisted_shapes b ss (omega arith))
    unlisted_shapes b (Case c ps ∷ ss) h = ((λ q. q), unlisted_shapes b ss h)

    unlisted : (b : ℕ) (rs : List Row) → top rs ≤ b → ApartAll (Plain b) rs
    unlisted b [] h = tt
    unlisted b ([] ∷ rs) h = (tt, unlisted b rs h)
    unlisted b ((p ∷ ps) ∷ rs) h = (unlisted_shapes b (a p) (omega arith), unlisted b rs (omega arith))

    flat_shapes : (ss : List Shape) → EachOf (λ s. IsApart Leaf s) ss
    flat_shapes [] = tt
    flat_shapes (Any ∷ ss) = (tt, flat_shapes ss)
    flat_shapes (Literal m ∷ ss) = ((λ q. q), flat_shapes ss)
    flat_shapes (Case c ps ∷ ss) = ((λ q. q), flat_shapes ss)

    flat : (rs : List Row) → ApartAll Leaf rs
    flat [] = tt
    flat ([] ∷ rs) = (tt, flat rs)
    flat ((p ∷ ps) ∷ rs) = (flat_shapes (a p), flat rs)

    gap_with : (d t : ℕ) (ds ts : List ℕ) (rs : List Row) (m : List Choice) (v : Value) → Fits k d t v → ApartAll v rs → length ds ≡ length ts → SuitRows k a (d ∷ ds) (t ∷ ts) rs → IsMissing k a ts (rest_rows a rs) m → (vs : Values) × FitsAll k (d ∷ ds) (t ∷ ts) vs × Follows (choice.Any ∷ m) vs × (AnyMatches a rs vs → ⊥)
    gap_with d t ds ts rs m v f p l s g =
        let w = g ds l (rests_suit d t ds ts rs s) in
        (And v w.0, (f, w.1), w.2, λ h. w.3 (rests_back rs v w.0 p h))

    literals_at : (d t : ℕ) (ds ts : List ℕ) (rs : List Row) (m : List Choice) → k t ≡ Literals → length ds ≡ length ts → SuitRows k a (d ∷ ds) (t ∷ ts) rs → IsMissing k a ts (rest_rows a rs) m → (vs : Values) × FitsAll k (d ∷ ds) (t ∷ ts) vs × Follows (choice.Any ∷ m) vs × (AnyMatches a rs vs → ⊥)
    literals_at zero t ds ts rs m e l s g = gap_with zero t ds ts rs m Leaf tt (flat rs) l s g
    literals_at (suc d) t ds ts rs m e l s g = gap_with (suc d) t ds ts rs m (Plain (top rs)) e (unlisted (top rs) rs (omega arith)) l s g

    gap_literals : (t : ℕ) (ts : List ℕ) (rs : List Row) (m : List Choice) → k t ≡ Literals → IsMissing k a ts (rest_rows a rs) m → IsMissing k a (t ∷ ts) rs (choice.Any ∷ m)
    gap_literals t ts rs m e g [] l s = absurd (omega arith)
    gap_literals t ts rs m e g (d ∷ ds) l s = literals_at d t ds ts rs m e (omega arith) s g

    gap_cases : (t : ℕ) (ts : List ℕ) (rs : List Row) (m : List Choice) (cs : List (List ℕ)) → k t ≡ Cases cs → names_any a rs ≡ false → IsMissing k a ts (rest_rows a rs) m → IsMissing k a (t ∷ ts) rs (choice.Any ∷ m)
    gap_cases t ts rs m cs e n g [] l s = absurd (omega arith)
    gap_cases t ts rs m cs e n g (d ∷ ds) l s = gap_with d t ds ts rs m (fill d t) (fill_fits d t) (unnamed d t ds ts cs (fill d t) rs e n s) (omega arith) s g

    gap_kind : (t : ℕ) (ts : List ℕ) (rs : List Row) (m : List Choice) (b : Kind) → k t ≡ b → names_any a rs ≡ false → IsMissing k a ts (rest_rows a rs) m → IsMissing k a (t ∷ ts) rs (choice.Any ∷ m)
    gap_kind t ts rs m Literals e n g = gap_literals t ts rs m e g
    gap_kind t ts rs m (Cases cs) e n g = gap_cases t ts rs m cs e n g

    pub missing_rest : (t : ℕ) (ts : List ℕ) (rs : List Row) (m : List Choice) → (k t ≡ Literals) ⊎ (names_any a rs ≡ false) → IsMissing k a ts (rest_rows a rs) m → IsMissing k a (t ∷ ts) rs (choice.Any ∷ m)
    missing_rest t ts rs m p g = ⊎_elim (λ i. gap_literals t ts rs m i g) (λ n. gap_kind t ts rs m (k t) refl n g) p

    -- a row with `_` at each column matches all
    and_first : (x y : Bool) → x && y ≡ true → x ≡ true
    and_first true y e = refl
    and_first false y e = e

    and_second : (x y : Bool) → x && y ≡ true → y ≡ true
    and_second true y e = e
    and_second false y e = absurd (false≢true e)

    whole_matches : (r : Row) (ds ts : List ℕ) (vs : Values) → is_whole a r ≡ true → SuitsAll k a ds ts r → FitsAll k ds ts vs → MatchesAll a vs r
    whole_matches [] [] [] NoValue w s f = tt
    whole_matches [] [] [] (And v vs) w s f = absurd f
    whole_matches [] [] (t ∷ ts) vs w s f = absurd s
    whole_matches [] (d ∷ ds) [] vs w s f = absurd s
    whole_matches [] (d ∷ ds) (t ∷ ts) vs w s f = absurd s
    whole_matches (p ∷ ps) [] [] vs w s f = absurd s
    whole_matches (p ∷ ps) [] (t ∷ ts) vs w s f = absurd s
    whole_matches (p ∷ ps) (d ∷ ds) [] vs w s f = absurd s
    whole_matches (p ∷ ps) (d ∷ ds) (t ∷ ts) NoValue w s f = absurd f
    whole_matches (p ∷ ps) (d ∷ ds) (t ∷ ts) (And v vs) w s f = (some_any (a p) v (and_first (some_of is_any (a p)) (is_whole a ps) w), whole_matches ps ds ts vs (and_second (some_of is_any (a p)) (is_whole a ps) w) s.1 f.1)

    whole_either : (b : Bool) (r : Row) (rs : List Row) (ds ts : List ℕ) (vs : Values) → is_whole a r ≡ b → b || some_of (is_whole a) rs ≡ true → (some_of (is_whole a) rs ≡ true → SuitRows k a ds ts rs → FitsAll k ds ts vs → AnyMatches a rs vs) → SuitRows k a ds ts (r ∷ rs) → FitsAll k ds ts vs → AnyMatches a (r ∷ rs) vs
    whole_either true r rs ds ts vs e w h s f = inl (whole_matches r ds ts vs e s.0 f)
    whole_either false r rs ds ts vs e w h s f = inr (h w s.1 f)

    whole_any : (rs : List Row) (ds ts : List ℕ) (vs : Values) → some_of (is_whole a) rs ≡ true → SuitRows k a ds ts rs → FitsAll k ds ts vs → AnyMatches a rs vs
    whole_any [] ds ts vs w s f = absurd (false≢true w)
    whole_any (r ∷ rs) ds ts vs w s f = whole_either (is_whole a r) r rs ds ts vs refl w (λ x y z. whole_any rs ds ts vs x y z) s f

    pub covered_whole : (ts : List ℕ) (rs : List Row) → some_of (is_whole a) rs ≡ true → Covered k a ts rs
    covered_whole ts rs w ds s vs f = whole_any rs ds ts vs w s f

    -- rows over no columns
    pub covered_end : (r : Row) (rs : List Row) → Covered k a [] (r ∷ rs)
    covered_end [] rs [] s NoValue f = inl tt
    covered_end [] rs [] s (And v vs) f = absurd f
    covered_end (p ∷ ps) rs [] s vs f = absurd s.0
    covered_end r rs (d ∷ ds) s NoValue f = absurd f
    covered_end r rs (d ∷ ds) s (And v vs) f = absurd f
