-- Patterns by their numbers, value trees, and what rows of patterns leave.
use Rattle.std.specs.Prelude.{◌≡◌, ℕ, zero, suc, ◌<◌, true, false, List, [], ◌∷◌, ◌++◌, length, replicate, slice_get, Option, Some, None, ◌⊎◌}
use Rattle.ink_matrix.specs.declared.pattern.Choice.{Choice}
use Rattle.ink_matrix.specs.declared.pattern.Choice.TheVariants as choice
use Rattle.ink_matrix.specs.Rows.{Shape, Any, Literal, Case, Kind, Literals, Cases, Row, rest_rows, open_rows, names_any}

mutual
  -- a leaf, a plain value, or a case with its parts
  pub data Value : Type 0 where
    Leaf : Value
    Plain : (n : ℕ) → Value
    Made : (c : ℕ) → Values → Value

  pub data Values : Type 0 where
    NoValue : Values
    And : Value → Values → Values

abbrev pub both : Values → Values → Values
both NoValue ws = ws
both (And v vs) ws = And v (both vs ws)

-- A value tree of this depth and type. One of depth 0 is a leaf, and so is the one value of a type without cases.
abbrev mutual
  pub Fits : (ℕ → Kind) → ℕ → ℕ → Value → Type 0
  Fits k zero t Leaf = Unit {0}
  Fits k (suc e) t Leaf = k t ≡ Cases []
  Fits k zero t (Plain n) = ⊥
  Fits k (suc e) t (Plain n) = k t ≡ Literals
  Fits k zero t (Made c vs) = ⊥
  Fits k (suc e) t (Made c vs) = (cs : List (List ℕ)) × (fs : List ℕ) × (k t ≡ Cases cs) × (slice_get cs c ≡ Some fs) × FitsAll k (replicate (length fs) e) fs vs

  pub FitsAll : (ℕ → Kind) → List ℕ → List ℕ → Values → Type 0
  FitsAll k [] [] NoValue = Unit {0}
  FitsAll k [] (t ∷ ts) NoValue = ⊥
  FitsAll k (d ∷ ds) ts NoValue = ⊥
  FitsAll k [] ts (And v vs) = ⊥
  FitsAll k (d ∷ ds) [] (And v vs) = ⊥
  FitsAll k (d ∷ ds) (t ∷ ts) (And v vs) = Fits k d t v × FitsAll k ds ts vs

abbrev pub SomeOf : (Shape → Type 0) → List Shape → Type 0
SomeOf f [] = ⊥
SomeOf f (s ∷ ss) = f s ⊎ SomeOf f ss

abbrev pub EachOf : (Shape → Type 0) → List Shape → Type 0
EachOf f [] = Unit {0}
EachOf f (s ∷ ss) = f s × EachOf f ss

-- A value tree matches a pattern where it matches one of its alternatives. A leaf matches `_` alone.
abbrev mutual
  pub Matches : (Option ℕ → List Shape) → Value → Shape → Type 0
  Matches a Leaf Any = Unit {0}
  Matches a (Plain m) Any = Unit {0}
  Matches a (Made e vs) Any = Unit {0}
  Matches a Leaf (Literal n) = ⊥
  Matches a (Plain m) (Literal n) = n ≡ m
  Matches a (Made e vs) (Literal n) = ⊥
  Matches a Leaf (Case c ps) = ⊥
  Matches a (Plain m) (Case c ps) = ⊥
  Matches a (Made e vs) (Case c ps) = (c ≡ e) × MatchesAll a vs ps

  pub MatchesAll : (Option ℕ → List Shape) → Values → Row → Type 0
  MatchesAll a NoValue [] = Unit {0}
  MatchesAll a NoValue (p ∷ ps) = ⊥
  MatchesAll a (And v vs) [] = ⊥
  MatchesAll a (And v vs) (p ∷ ps) = SomeOf (λ s. Matches a v s) (a p) × MatchesAll a vs ps

abbrev pub AnyMatches : (Option ℕ → List Shape) → List Row → Values → Type 0
AnyMatches a [] vs = ⊥
AnyMatches a (r ∷ rs) vs = MatchesAll a vs r ⊎ AnyMatches a rs vs

-- patterns of these types, one for each, by what each alternative has to be
abbrev pub EachPart : (ℕ → Shape → Type 0) → (Option ℕ → List Shape) → List ℕ → Row → Type 0
EachPart f a [] [] = Unit {0}
EachPart f a [] (p ∷ ps) = ⊥
EachPart f a (t ∷ ts) [] = ⊥
EachPart f a (t ∷ ts) (p ∷ ps) = EachOf (λ s. f t s) (a p) × EachPart f a ts ps

-- an alternative of this type, no higher than this depth
abbrev pub Suits : (ℕ → Kind) → (Option ℕ → List Shape) → ℕ → ℕ → Shape → Type 0
Suits k a zero t Any = Unit {0}
Suits k a zero t (Literal n) = ⊥
Suits k a zero t (Case c ps) = ⊥
Suits k a (suc e) t Any = Unit {0}
Suits k a (suc e) t (Literal n) = k t ≡ Literals
Suits k a (suc e) t (Case c ps) = (cs : List (List ℕ)) × (fs : List ℕ) × (k t ≡ Cases cs) × (slice_get cs c ≡ Some fs) × EachPart (λ u s. Suits k a e u s) a fs ps

abbrev pub SuitsAll : (ℕ → Kind) → (Option ℕ → List Shape) → List ℕ → List ℕ → Row → Type 0
SuitsAll k a [] [] [] = Unit {0}
SuitsAll k a [] [] (p ∷ ps) = ⊥
SuitsAll k a [] (t ∷ ts) ps = ⊥
SuitsAll k a (d ∷ ds) [] ps = ⊥
SuitsAll k a (d ∷ ds) (t ∷ ts) [] = ⊥
SuitsAll k a (d ∷ ds) (t ∷ ts) (p ∷ ps) = EachOf (λ s. Suits k a d t s) (a p) × SuitsAll k a ds ts ps

abbrev pub SuitRows : (ℕ → Kind) → (Option ℕ → List Shape) → List ℕ → List ℕ → List Row → Type 0
SuitRows k a ds ts [] = Unit {0}
SuitRows k a ds ts (r ∷ rs) = SuitsAll k a ds ts r × SuitRows k a ds ts rs

-- At each depth at which no pattern of the rows is higher, each row of value trees matches a row.
abbrev pub Covered : (ℕ → Kind) → (Option ℕ → List Shape) → List ℕ → List Row → Type 0
Covered k a ts rows = (ds : List ℕ) → SuitRows k a ds ts rows → (vs : Values) → FitsAll k ds ts vs → AnyMatches a rows vs

-- A missing row of patterns is the list of what is chosen in it, in the order in which it is written: `Some((_, None))` is
-- `Some`, the tuple, `_`, `None`. These are the value trees that match it.
abbrev pub Follows : List Choice → Values → Type 0
Follows [] NoValue = Unit {0}
Follows [] (And v vs) = ⊥
Follows (choice.Any ∷ m) NoValue = ⊥
Follows (choice.Any ∷ m) (And v vs) = Follows m vs
Follows (choice.Case c ∷ m) NoValue = ⊥
Follows (choice.Case c ∷ m) (And Leaf vs) = ⊥
Follows (choice.Case c ∷ m) (And (Plain n) vs) = ⊥
Follows (choice.Case c ∷ m) (And (Made e us) vs) = (c ≡ e) × Follows m (both us vs)

-- At each such depth some row of value trees matches m, and no row of the matrix.
abbrev pub IsMissing : (ℕ → Kind) → (Option ℕ → List Shape) → List ℕ → List Row → List Choice → Type 0
IsMissing k a ts rows m = (ds : List ℕ) → length ds ≡ length ts → SuitRows k a ds ts rows → (vs : Values) × FitsAll k ds ts vs × Follows m vs × (AnyMatches a rows vs → ⊥)

-- The least of them: columns from left to right, the cases before the one that is chosen are covered, and `_` is chosen
-- where the column has plain values, or where no row that counts names a case.
abbrev pub IsLeast : (ℕ → Kind) → (Option ℕ → List Shape) → List ℕ → List Row → List Choice → Type 0
IsLeast k a [] rows [] = rows ≡ []
IsLeast k a [] rows (x ∷ m) = ⊥
IsLeast k a (t ∷ ts) rows [] = ⊥
IsLeast k a (t ∷ ts) rows (choice.Any ∷ m) = ((k t ≡ Literals) ⊎ (names_any a rows ≡ false)) × IsLeast k a ts (rest_rows a rows) m
IsLeast k a (t ∷ ts) rows (choice.Case c ∷ m) =
    (cs : List (List ℕ)) × (fs : List ℕ) × (k t ≡ Cases cs) × (names_any a rows ≡ true) × (slice_get cs c ≡ Some fs)
    × ((b : ℕ) (gs : List ℕ) → b < c → slice_get cs b ≡ Some gs → Covered k a (gs ++ ts) (open_rows a b (length gs) rows))
    × IsLeast k a (fs ++ ts) (open_rows a c (length fs) rows) m

-- the least missing row of patterns
abbrev pub Answers : (ℕ → Kind) → (Option ℕ → List Shape) → List ℕ → List Row → List Choice → Type 0
Answers k a ts rows m = IsMissing k a ts rows m × IsLeast k a ts rows m

-- what rows of patterns come to: they leave nothing, or this is the least that they leave
abbrev pub ComesTo : (ℕ → Kind) → (Option ℕ → List Shape) → List ℕ → List Row → Option (List Choice) → Type 0
ComesTo k a ts rows None = Covered k a ts rows
ComesTo k a ts rows (Some m) = Answers k a ts rows m
