-- The search by a stack.
use Rattle.std.proofs.Common.{◌≡◌, ℕ, zero, suc, ◌+◌, ◌<◌, true, false, List, [], ◌∷◌, ◌++◌, length, map, drop, get_or, replicate, slice_get, Option, Some, None, ◌⊎◌, inr, ⊎_elim, refl, sym, ap, ◌∙◌, subst, arith}
use Rattle.std.proofs.lemmas.List.{append_assoc, map-append, length-map}
use Rattle.std.proofs.lemmas.Bool.{cases_lt}
use Rattle.ink_matrix.specs.declared.pattern.Choice.{Choice}
use Rattle.ink_matrix.specs.declared.pattern.Choice.TheVariants as choice
use Rattle.ink_matrix.specs.declared.rows.Matrix.{Matrix}
use Rattle.ink_matrix.specs.declared.rows.Row as declared_row
use Rattle.ink_matrix.specs.declared.search.Frame.{Frame}
use Rattle.ink_matrix.specs.declared.search.Frame.TheVariants as frame
use Rattle.ink_matrix.specs.Rows.{Shape, Any, Kind, Literals, Cases, Row, some_of, is_whole, rest_rows, open_rows, names_any}
use Rattle.ink_matrix.specs.Views.{rows_of}
use Rattle.ink_matrix.specs.Cover.{Values, NoValue, And, Covered, IsLeast, Answers, Follows, FitsAll, AnyMatches}
use Rattle.ink_matrix.specs.Search.{choice_of, fields_in, SkipsAt, SkipsTo, frames_behind, IsReady, Below, IsBelow, Leads, Stands}
use Rattle.ink_matrix.proofs.Skips.{covered_rest, missing_rest, covered_whole, covered_end, fill, fill_fits}
use Rattle.ink_matrix.proofs.Opens.{covered_cases, missing_case}

module _ (k : ℕ → Kind) (a : Option ℕ → List Shape) where
  -- what holds below a frame with a case
  abbrev Retry : Matrix → ℕ → Type 0 → (List Choice → Type 0) → Type 0
  Retry matrix c C G = IsReady k a matrix.columns.items (rows_of matrix.rows.items) (c + 1)
      × (Covered k a matrix.columns.items (rows_of matrix.rows.items) → C)
      × ((m : List Choice) → Answers k a matrix.columns.items (rows_of matrix.rows.items) m → G m)

  -- frames on top of others
  any_pushed : (C : Type 0) (G : List Choice → Type 0) (fs : List Frame) → Below k a C G fs → Below k a C G (fs ++ frame.Any ∷ [])
  any_pushed C G [] b = b
  any_pushed C G (frame.Any ∷ fs) b = any_pushed C (λ m. G (choice.Any ∷ m)) fs b
  any_pushed C G (frame.Case matrix c ∷ fs) b = any_pushed (Retry matrix c C G) (λ m. G (choice.Case c ∷ m)) fs b

  any_popped : (C : Type 0) (G : List Choice → Type 0) (fs : List Frame) → Below k a C G (fs ++ frame.Any ∷ []) → Below k a C G fs
  any_popped C G [] b = b
  any_popped C G (frame.Any ∷ fs) b = any_popped C (λ m. G (choice.Any ∷ m)) fs b
  any_popped C G (frame.Case matrix c ∷ fs) b = any_popped (Retry matrix c C G) (λ m. G (choice.Case c ∷ m)) fs b

  case_pushed : (C : Type 0) (G : List Choice → Type 0) (fs : List Frame) (matrix : Matrix) (c : ℕ) → Retry matrix c (Below k a C G fs) (λ m. G (map choice_of fs ++ m)) → Below k a C G (fs ++ frame.Case matrix c ∷ [])
  case_pushed C G [] matrix c r = r
  case_pushed C G (frame.Any ∷ fs) matrix c r = case_pushed C (λ m. G (choice.Any ∷ m)) fs matrix c r
  case_pushed C G (frame.Case other b ∷ fs) matrix c r = case_pushed (Retry other b C G) (λ m. G (choice.Case b ∷ m)) fs matrix c r

  case_popped : (C : Type 0) (G : List Choice → Type 0) (fs : List Frame) (matrix : Matrix) (c : ℕ) → Below k a C G (fs ++ frame.Case matrix c ∷ []) → Retry matrix c (Below k a C G fs) (λ m. G (map choice_of fs ++ m))
  case_popped C G [] matrix c b = b
  case_popped C G (frame.Any ∷ fs) matrix c b = case_popped C (λ m. G (choice.Any ∷ m)) fs matrix c b
  case_popped C G (frame.Case other d ∷ fs) matrix c b = case_popped (Retry other d C G) (λ m. G (choice.Case d ∷ m)) fs matrix c b

  path_more : (fs : List Frame) (f : Frame) (m : List Choice) → map choice_of (fs ++ f ∷ []) ++ m ≡ map choice_of fs ++ (choice_of f ∷ m)
  path_more fs f m = ap (λ x. x ++ m) (map-append choice_of fs (f ∷ [])) ∙ append_assoc (map choice_of fs) (choice_of f ∷ []) m

  -- without rows all is missing
  anys_least : (ts : List ℕ) → IsLeast k a ts [] (replicate (length ts) choice.Any)
  anys_least [] = refl
  anys_least (t ∷ ts) = (inr refl, anys_least ts)

  anys_values : (ds ts : List ℕ) → length ds ≡ length ts → (vs : Values) × FitsAll k ds ts vs × Follows (replicate (length ts) choice.Any) vs × (AnyMatches a [] vs → ⊥)
  anys_values [] [] l = (NoValue, tt, tt, λ h. h)
  anys_values [] (t ∷ ts) l = absurd (omega arith)
  anys_values (d ∷ ds) [] l = absurd (omega arith)
  anys_values (d ∷ ds) (t ∷ ts) l = let w = anys_values ds ts (omega arith) in (And (fill a k d t) w.0, (fill_fits a k d t, w.1), w.2, λ h. h)

  pub anys_answer : (ts : List ℕ) → Answers k a ts [] (replicate (length ts) choice.Any)
  anys_answer ts = (λ ds l s. anys_values ds ts l, anys_least ts)

  -- the first column is skipped
  any_answer : (t : ℕ) (ts : List ℕ) (rs : List Row) (m : List Choice) → (k t ≡ Literals) ⊎ (names_any a rs ≡ false) → Answers k a ts (rest_rows a rs) m → Answers k a (t ∷ ts) rs (choice.Any ∷ m)
  any_answer t ts rs m p g = (missing_rest a k t ts rs m p g.0, (p, g.1))

  pub skipped : (columns : List ℕ) (rows : List Row) (fs : List Frame) (t : ℕ) (ts : List ℕ) (rs : List Row) → (k t ≡ Literals) ⊎ (names_any a rs ≡ false) → Leads k a columns rows fs (t ∷ ts) rs → Leads k a columns rows (fs ++ frame.Any ∷ []) ts (rest_rows a rs)
  skipped columns rows fs t ts rs p l = (
    λ c. any_pushed (Covered k a columns rows) (λ m. Answers k a columns rows m) fs (l.0 (covered_rest a k t ts rs c)),
    λ m g. subst (λ x. Answers k a columns rows x) (sym (path_more fs frame.Any m)) (l.1 (choice.Any ∷ m) (any_answer t ts rs m p g)),
  )

  -- a case of it is opened
  module _ (none : a None ≡ Any ∷ []) where
    case_answer : (t : ℕ) (ts : List ℕ) (rs : List Row) (cs : List (List ℕ)) (c : ℕ) (fs : List ℕ) (m : List Choice) → k t ≡ Cases cs → names_any a rs ≡ true → slice_get cs c ≡ Some fs
        → ((b : ℕ) (gs : List ℕ) → b < c → slice_get cs b ≡ Some gs → Covered k a (gs ++ ts) (open_rows a b (length gs) rs))
        → Answers k a (fs ++ ts) (open_rows a c (length fs) rs) m → Answers k a (t ∷ ts) rs (choice.Case c ∷ m)
    case_answer t ts rs cs c fs m kt n at before g = (missing_case a k none t ts cs rs kt n c fs m at g.0, (cs, fs, kt, n, at, before, g.1))

    case_covered : (ts : List ℕ) (rs : List Row) (cs : List (List ℕ)) (c : ℕ) (fs : List ℕ) → slice_get cs c ≡ Some fs
        → ((b : ℕ) (gs : List ℕ) → b < c → slice_get cs b ≡ Some gs → Covered k a (gs ++ ts) (open_rows a b (length gs) rs))
        → Covered k a (fs ++ ts) (open_rows a c (length fs) rs)
        → (b : ℕ) (gs : List ℕ) → b < c + 1 → slice_get cs b ≡ Some gs → Covered k a (gs ++ ts) (open_rows a b (length gs) rs)
    case_covered ts rs cs c fs at before v b gs h g =
        ⊎_elim (λ l. before b gs l g) (λ ge. (let be : b ≡ c = omega arith in let so : Some fs ≡ Some gs = sym at ∙ (ap (λ x. slice_get cs x) (sym be) ∙ g) in let same : fs ≡ gs = cc in
        subst (λ x. Covered k a (gs ++ ts) (open_rows a x (length gs) rs)) (sym be) (subst (λ x. Covered k a (x ++ ts) (open_rows a c (length x) rs)) same v))) (cases_lt b c)

    get_none : (cs : List (List ℕ)) (c b : ℕ) (gs : List ℕ) → slice_get cs c ≡ None → slice_get cs b ≡ Some gs → b < c
    get_none [] c b gs n g = let bad : None ≡ Some gs = g in cc
    get_none (x ∷ cs) zero b gs n g = let bad : Some x ≡ None = n in cc
    get_none (x ∷ cs) (suc c) zero gs n g = omega arith
    get_none (x ∷ cs) (suc c) (suc b) gs n g = let h = get_none cs c b gs n g in omega (arith, h)

    no_case : (t : ℕ) (cs : List (List ℕ)) (c : ℕ) (o : Option (List ℕ)) → k t ≡ Cases cs → fields_in (k t) c ≡ o → slice_get cs c ≡ o
    no_case t cs c o kt f = ap (λ x. fields_in x c) (sym kt) ∙ f

    same_head : (t u : ℕ) (ts us : List ℕ) → t ∷ ts ≡ u ∷ us → t ≡ u
    same_head t u ts us e = ap (λ x. get_or x 0 0) e

    same_tail : (t u : ℕ) (ts us : List ℕ) → t ∷ ts ≡ u ∷ us → ts ≡ us
    same_tail t u ts us e = ap (λ x. drop 1 x) e

    ready_at : (t : ℕ) (ts : List ℕ) (rs : List Row) (c : ℕ) → IsReady k a (t ∷ ts) rs c → (cs : List (List ℕ)) × (k t ≡ Cases cs) × (names_any a rs ≡ true) × ((b : ℕ) (gs : List ℕ) → b < c → slice_get cs b ≡ Some gs → Covered k a (gs ++ ts) (open_rows a b (length gs) rs))
    ready_at t ts rs c r =
        let e = same_head t r.0 ts r.1 r.3 in
        let f = same_tail t r.0 ts r.1 r.3 in
        (r.2, ap (λ x. k x) e ∙ r.4, r.5, subst (λ x. (b : ℕ) (gs : List ℕ) → b < c → slice_get r.2 b ≡ Some gs → Covered k a (gs ++ x) (open_rows a b (length gs) rs)) (sym f) r.6)

    pub covered_behind : (t : ℕ) (ts : List ℕ) (rs : List Row) (c : ℕ) → fields_in (k t) c ≡ None → IsReady k a (t ∷ ts) rs c → Covered k a (t ∷ ts) rs
    covered_behind t ts rs c f r =
        let q = ready_at t ts rs c r in
        covered_cases a k none t ts q.0 rs q.1 q.2 (λ b gs g. q.3 b gs (get_none q.0 c b gs (no_case t q.0 c None q.1 f) g) g)

    ready_next : (t : ℕ) (ts : List ℕ) (rs : List Row) (c : ℕ) (fs : List ℕ) → fields_in (k t) c ≡ Some fs → IsReady k a (t ∷ ts) rs c → Covered k a (fs ++ ts) (open_rows a c (length fs) rs) → IsReady k a (t ∷ ts) rs (c + 1)
    ready_next t ts rs c fs f r v =
        let q = ready_at t ts rs c r in
        (t, ts, q.0, refl, q.1, q.2, case_covered ts rs q.0 c fs (no_case t q.0 c (Some fs) q.1 f) q.3 v)

    -- the frames with a case on top lead on, over plain lists
    opened_leads : (columns : List ℕ) (rows : List Row) (fs : List Frame) (matrix : Matrix) (c : ℕ) (t : ℕ) (ts : List ℕ) (gs : List ℕ) → matrix.columns.items ≡ t ∷ ts → fields_in (k t) c ≡ Some gs
        → IsReady k a (t ∷ ts) (rows_of matrix.rows.items) c → Leads k a columns rows fs matrix.columns.items (rows_of matrix.rows.items)
        → Leads k a columns rows (fs ++ frame.Case matrix c ∷ []) (gs ++ ts) (open_rows a c (length gs) (rows_of matrix.rows.items))
    opened_leads columns rows fs matrix c t ts gs e f r l =
        let rs = rows_of matrix.rows.items in
        let q = ready_at t ts rs c r in (
          λ v. case_pushed (Covered k a columns rows) (λ m. Answers k a columns rows m) fs matrix c
              (subst (λ x. IsReady k a x rs (c + 1)) (sym e) (ready_next t ts rs c gs f r v), l.0, l.1),
          λ m g. subst (λ x. Answers k a columns rows x) (sym (path_more fs (frame.Case matrix c) m))
              (l.1 (choice.Case c ∷ m) (subst (λ x. Answers k a x rs (choice.Case c ∷ m)) (sym e) (case_answer t ts rs q.0 c gs m q.1 q.2 (no_case t q.0 c (Some gs) q.1 f) q.3 g))),
        )

    pub opened : (columns : List ℕ) (rows : List Row) (fs new : List Frame) (matrix : Matrix) (us : List ℕ) (qs : List Row) (c : ℕ) (t : ℕ) (ts : List ℕ) (gs : List ℕ) → matrix.columns.items ≡ t ∷ ts → fields_in (k t) c ≡ Some gs
        → IsReady k a matrix.columns.items (rows_of matrix.rows.items) c → Leads k a columns rows fs matrix.columns.items (rows_of matrix.rows.items)
        → new ≡ fs ++ frame.Case matrix c ∷ [] → us ≡ gs ++ ts → qs ≡ open_rows a c (length gs) (rows_of matrix.rows.items)
        → Leads k a columns rows new us qs
    opened columns rows fs new matrix us qs c t ts gs e f r l n p q =
        let w = opened_leads columns rows fs matrix c t ts gs e f (subst (λ x. IsReady k a x (rows_of matrix.rows.items) c) e r) l in
        subst (λ x. Leads k a columns rows x us qs) (sym n)
        (subst (λ x. Leads k a columns rows (fs ++ frame.Case matrix c ∷ []) x qs) (sym p)
        (subst (λ x. Leads k a columns rows (fs ++ frame.Case matrix c ∷ []) (gs ++ ts) x) (sym q) w))

    pub closed : (columns : List ℕ) (rows : List Row) (fs : List Frame) (matrix : Matrix) (c : ℕ) (t : ℕ) (ts : List ℕ) → matrix.columns.items ≡ t ∷ ts → fields_in (k t) c ≡ None
        → IsReady k a matrix.columns.items (rows_of matrix.rows.items) c → Leads k a columns rows fs matrix.columns.items (rows_of matrix.rows.items) → IsBelow k a columns rows fs
    closed columns rows fs matrix c t ts e f r l =
        l.0 (subst (λ x. Covered k a x (rows_of matrix.rows.items)) (sym e) (covered_behind t ts (rows_of matrix.rows.items) c f (subst (λ x. IsReady k a x (rows_of matrix.rows.items) c) e r)))

  -- without columns there is nothing to open, and a row takes what is left
  pub no_columns : (columns : List ℕ) (rs : List Row) → length columns ≡ 0 → 0 < length rs → Covered k a columns rs
  no_columns [] [] l h = absurd (omega arith)
  no_columns [] (r ∷ rs) l h = covered_end a k r rs
  no_columns (t ∷ ts) rs l h = absurd (omega arith)

  pub skip_on : (columns : List ℕ) (rows : List Row) (fs new : List Frame) (ts : List ℕ) (rs : List declared_row.Row) (next : Option Matrix) → 0 < length rs → SkipsAt k a ts (rows_of rs) → SkipsTo a ts (rows_of rs) next → new ≡ frames_behind fs next → Leads k a columns rows fs ts (rows_of rs) → Stands k a columns rows new next
  skip_on columns rows fs new [] rs None h s e n l = subst (λ x. IsBelow k a columns rows x) (sym n) (l.0 (no_columns [] (rows_of rs) refl (let q : length (rows_of rs) ≡ length rs = length-map rs (λ r. r.parts.items) in omega (arith, h, q))))
  skip_on columns rows fs new [] rs (Some m) h s e n l = let bad : Some m ≡ None = e in cc
  skip_on columns rows fs new (t ∷ ts) rs None h s e n l = absurd e
  skip_on columns rows fs new (t ∷ ts) rs (Some m) h s e n l =
      subst (λ x. Leads k a columns rows x m.columns.items (rows_of m.rows.items)) (sym n)
      (subst (λ x. Leads k a columns rows (fs ++ frame.Any ∷ []) x (rows_of m.rows.items)) (sym e.0)
      (subst (λ x. Leads k a columns rows (fs ++ frame.Any ∷ []) ts x) (sym e.1) (skipped columns rows fs t ts (rows_of rs) s l)))

  pub found_here : (columns : List ℕ) (rows : List Row) (fs : List Frame) (ts : List ℕ) (rs : List declared_row.Row) (m : List Choice) → length rs ≡ 0 → m ≡ map choice_of fs ++ replicate (length ts) choice.Any → Leads k a columns rows fs ts (rows_of rs) → Answers k a columns rows m
  found_here columns rows fs ts [] m h e l = subst (λ x. Answers k a columns rows x) (sym e) (l.1 (replicate (length ts) choice.Any) (anys_answer ts))
  found_here columns rows fs ts (r ∷ rs) m h e l = absurd (omega arith)

  pub whole_here : (columns : List ℕ) (rows : List Row) (fs : List Frame) (ts : List ℕ) (rs : List Row) → some_of (is_whole a) rs ≡ true → Leads k a columns rows fs ts rs → IsBelow k a columns rows fs
  whole_here columns rows fs ts rs w l = l.0 (covered_whole a k ts rs w)

  pub popped_any : (columns : List ℕ) (rows : List Row) (old new : List Frame) → old ≡ new ++ frame.Any ∷ [] → IsBelow k a columns rows old → IsBelow k a columns rows new
  popped_any columns rows old new e b = any_popped (Covered k a columns rows) (λ m. Answers k a columns rows m) new (subst (λ x. IsBelow k a columns rows x) e b)

  pub popped_case : (columns : List ℕ) (rows : List Row) (old new : List Frame) (matrix : Matrix) (c next : ℕ) → old ≡ new ++ frame.Case matrix c ∷ [] → next ≡ c + 1 → IsBelow k a columns rows old
      → IsReady k a matrix.columns.items (rows_of matrix.rows.items) next × Leads k a columns rows new matrix.columns.items (rows_of matrix.rows.items)
  popped_case columns rows old new matrix c next e n b =
      let r = case_popped (Covered k a columns rows) (λ m. Answers k a columns rows m) new matrix c (subst (λ x. IsBelow k a columns rows x) e b) in
      (subst (λ x. IsReady k a matrix.columns.items (rows_of matrix.rows.items) x) (sym n) r.0, (r.1, r.2))
