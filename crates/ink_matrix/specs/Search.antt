-- What a search for the least missing row knows while it runs.
use Rattle.std.specs.Prelude.{◌≡◌, ℕ, ◌+◌, ◌<◌, true, false, ◌⊎◌, List, [], ◌∷◌, ◌++◌, length, map, slice_get, Option, Some, None}
use Rattle.ink_matrix.specs.declared.pattern.Choice.{Choice}
use Rattle.ink_matrix.specs.declared.pattern.Choice.TheVariants as choice
use Rattle.ink_matrix.specs.declared.rows.Matrix.{Matrix}
use Rattle.ink_matrix.specs.declared.search.Frame.{Frame}
use Rattle.ink_matrix.specs.declared.search.Frame.TheVariants as frame
use Rattle.ink_matrix.specs.declared.search.Turn.{Turn}
use Rattle.ink_matrix.specs.declared.search.Turn.TheVariants as turn
use Rattle.ink_matrix.specs.Rows.{Shape, Kind, Literals, Cases, Row, open_rows, rest_rows, names_any}
use Rattle.ink_matrix.specs.Views.{rows_of}
use Rattle.ink_matrix.specs.Cover.{Covered, Answers}

abbrev pub choice_of : Frame → Choice
choice_of frame.Any = choice.Any
choice_of (frame.Case matrix c) = choice.Case c

abbrev pub cases_in : Kind → List (List ℕ)
cases_in Literals = []
cases_in (Cases cs) = cs

-- the types of the parts of a case
abbrev pub fields_in : Kind → ℕ → Option (List ℕ)
fields_in Literals c = None
fields_in (Cases cs) c = slice_get cs c

abbrev pub fields_at : (ℕ → Kind) → List ℕ → ℕ → Option (List ℕ)
fields_at k [] c = None
fields_at k (t ∷ ts) c = fields_in (k t) c

-- a matrix without its first column, if it has one
abbrev pub SkipsTo : (Option ℕ → List Shape) → List ℕ → List Row → Option Matrix → Type 0
SkipsTo a [] rows next = next ≡ None
SkipsTo a (t ∷ ts) rows None = ⊥
SkipsTo a (t ∷ ts) rows (Some m) = (m.columns.items ≡ ts) × (rows_of m.rows.items ≡ rest_rows a rows)

abbrev pub frames_behind : List Frame → Option Matrix → List Frame
frames_behind old None = old
frames_behind old (Some m) = old ++ frame.Any ∷ []

abbrev pub Skips : (Option ℕ → List Shape) → List Frame → Matrix → List Frame → Option Matrix → Type 0
Skips a old matrix new next = SkipsTo a matrix.columns.items (rows_of matrix.rows.items) next × (new ≡ frames_behind old next)

module _ (k : ℕ → Kind) (a : Option ℕ → List Shape) where
  -- a matrix whose first column is opened case by case, and of which the cases before c are covered
  abbrev pub IsReady : List ℕ → List Row → ℕ → Type 0
  IsReady columns rows c =
      (t : ℕ) × (ts : List ℕ) × (cs : List (List ℕ)) × (columns ≡ t ∷ ts) × (k t ≡ Cases cs) × (names_any a rows ≡ true)
      × ((b : ℕ) (gs : List ℕ) → b < c → slice_get cs b ≡ Some gs → Covered k a (gs ++ ts) (open_rows a b (length gs) rows))

  abbrev pub SkipsAt : List ℕ → List Row → Type 0
  SkipsAt [] rows = Unit {0}
  SkipsAt (t ∷ ts) rows = (k t ≡ Literals) ⊎ (names_any a rows ≡ false)

  -- What holds below the frames of a search where what stands above them is covered. C is what follows where the matrix
  -- at the bottom is, and G of which rows it is enough to find the least missing one there.
  abbrev pub Below : Type 0 → (List Choice → Type 0) → List Frame → Type 0
  Below C G [] = C
  Below C G (frame.Any ∷ fs) = Below C (λ m. G (choice.Any ∷ m)) fs
  Below C G (frame.Case matrix c ∷ fs) =
      Below (IsReady matrix.columns.items (rows_of matrix.rows.items) (c + 1)
      × (Covered k a matrix.columns.items (rows_of matrix.rows.items) → C)
      × ((m : List Choice) → Answers k a matrix.columns.items (rows_of matrix.rows.items) m → G m))
      (λ m. G (choice.Case c ∷ m)) fs

  module _ (columns : List ℕ) (rows : List Row) where
    abbrev pub IsBelow : List Frame → Type 0
    IsBelow frames = Below (Covered k a columns rows) (Answers k a columns rows) frames

    -- the search for these goes on at a matrix: what the matrix comes to leads to what they come to
    abbrev pub Leads : List Frame → List ℕ → List Row → Type 0
    Leads frames ts rs = (Covered k a ts rs → IsBelow frames) × ((m : List Choice) → Answers k a ts rs m → Answers k a columns rows (map choice_of frames ++ m))

    -- it stands at a matrix, or behind one that is covered
    abbrev pub Stands : List Frame → Option Matrix → Type 0
    Stands frames None = IsBelow frames
    Stands frames (Some matrix) = Leads frames matrix.columns.items (rows_of matrix.rows.items)

    -- what a turn of it comes to
    abbrev pub Turns : List Frame → Turn → Type 0
    Turns frames (turn.On here) = Stands frames here
    Turns frames turn.Covered = Covered k a columns rows
    Turns frames (turn.Found m) = Answers k a columns rows m.items

  -- a turn, whatever was searched for
  abbrev pub TurnsFrom : List Frame → Option Matrix → List Frame → Turn → Type 0
  TurnsFrom old here new t = (columns : List ℕ) (rows : List Row) → Stands columns rows old here → Turns columns rows new t

  abbrev pub GoesOn : List Frame → Option Matrix → List Frame → Option Matrix → Type 0
  GoesOn old here new next = (columns : List ℕ) (rows : List Row) → Stands columns rows old here → Stands columns rows new next

  -- a case of a matrix is opened, of which those before it are covered
  abbrev pub Opens : List Frame → Matrix → ℕ → List Frame → Option Matrix → Type 0
  Opens old matrix c new next = (columns : List ℕ) (rows : List Row) → IsReady matrix.columns.items (rows_of matrix.rows.items) c → Stands columns rows old (Some matrix) → Stands columns rows new next

  -- the first column has plain values, or no row names a case there; or there is none
  abbrev pub IsSkipped : Matrix → Type 0
  IsSkipped matrix = SkipsAt matrix.columns.items (rows_of matrix.rows.items)

  -- it has cases, of which a row names one
  abbrev pub IsOpened : Matrix → Type 0
  IsOpened matrix = IsReady matrix.columns.items (rows_of matrix.rows.items) 0
