-- Rows of patterns by their numbers, and which of them count where a column is opened.
use Rattle.std.specs.Prelude.{ℕ, Bool, true, false, cond, eqb, ◌&&◌, ◌||◌, List, [], ◌∷◌, ◌++◌, replicate, Option, None}

-- an alternative of a pattern: any value, a plain value by its number, or a case with patterns of its parts
pub data Shape : Type 0 where
  Any : Shape
  Literal : (n : ℕ) → Shape
  Case : (c : ℕ) → List (Option ℕ) → Shape

-- what values a type has: plain ones by number, or the cases with the types of their parts
pub data Kind : Type 0 where
  Literals : Kind
  Cases : List (List ℕ) → Kind

-- a row has a pattern for each column, by its number, or `_`
abbrev pub Row : Type 0
Row = List (Option ℕ)

-- whether one of these is so
abbrev pub some_of : {A : Type 0} → (A → Bool) → List A → Bool
some_of f [] = false
some_of f (x ∷ xs) = f x || some_of f xs

-- what each of these gives, one behind the other
abbrev pub gather : {A B : Type 0} → (A → List B) → List A → List B
gather f [] = []
gather f (x ∷ xs) = f x ++ gather f xs

abbrev pub is_any : Shape → Bool
is_any Any = true
is_any (Literal n) = false
is_any (Case c ps) = false

abbrev pub is_case : Shape → Bool
is_case Any = false
is_case (Literal n) = false
is_case (Case c ps) = true

-- a row without its first pattern
abbrev pub behind : Row → Row
behind [] = []
behind (p ∷ ps) = ps

-- the rows that count where a value stands in the column that no row names: those with `_` there, without it
abbrev pub rest_of : (Option ℕ → List Shape) → Row → List Row
rest_of a [] = []
rest_of a (p ∷ ps) = cond (some_of is_any (a p)) (ps ∷ []) []

abbrev pub rest_rows : (Option ℕ → List Shape) → List Row → List Row
rest_rows a rows = gather (rest_of a) rows

-- what an alternative gives where the column has the case c, before the rest of its row: `_` stands for `_` at each part
abbrev pub opened : ℕ → Row → Row → Shape → List Row
opened c anys rest Any = (anys ++ rest) ∷ []
opened c anys rest (Literal m) = []
opened c anys rest (Case e ps) = cond (eqb e c) ((ps ++ rest) ∷ []) []

-- the rows that count where it is one of n parts: one for each alternative that is that case or `_`
abbrev pub open_of : (Option ℕ → List Shape) → ℕ → ℕ → Row → List Row
open_of a c n [] = []
open_of a c n (p ∷ ps) = gather (opened c (replicate n None) ps) (a p)

abbrev pub open_rows : (Option ℕ → List Shape) → ℕ → ℕ → List Row → List Row
open_rows a c n rows = gather (open_of a c n) rows

-- whether a row names a case at the first column
abbrev pub names : (Option ℕ → List Shape) → Row → Bool
names a [] = false
names a (p ∷ ps) = some_of is_case (a p)

abbrev pub names_any : (Option ℕ → List Shape) → List Row → Bool
names_any a rows = some_of (names a) rows

-- whether a row has `_` at each column
abbrev pub is_whole : (Option ℕ → List Shape) → Row → Bool
is_whole a [] = true
is_whole a (p ∷ ps) = some_of is_any (a p) && is_whole a ps
