-- The code of a pattern: the test whether it fits, what the chosen arm does, and what a guard reads.
use Rattle.std.specs.Prelude.{◌+◌, ◌∷◌, ◌&&◌, ◌||◌, ◌==◌, ℕ, zero, suc, Bool, true, false, List, [], Option, None, Some, if◌then◌else◌}
use Rattle.ink_code.specs.declared.instr.Instr.{Instr}
use Rattle.ink_code.specs.declared.instr.Instr.TheVariants as i
use Rattle.ink_code.specs.RowNumbers as row
use Rattle.ink_emit.specs.declared.given.Given.TheVariants as given
use Rattle.ink_emit.specs.declared.held.Holding.TheVariants as holding
use Rattle.ink_forms.specs.declared.word.Literal.{Literal}
use Rattle.ink_forms.specs.declared.word.Literal.TheVariants as literal
use Rattle.ink_forms.specs.Trees.{Pat, Pats, FieldPats, Wildcard, LitPat, Name, Constructor, Either, Fields, NoPat, AndPat, NoField, AndField}
use Rattle.ink_layout.specs.Pieces.{Site, Piece, at_its_place, behind, choose, does, drop_unless_value, giving, holds, nothing, released, told_its_end, told_the_place_between, with_free}

-- the free register holds something meanwhile, and nothing more is held behind it
abbrev pub meanwhile : Site → (ℕ → Piece) → Piece
meanwhile m a = with_free m (λ r. released (behind (holds holding.Operand r) (a r)))

-- it goes on only where a register holds true, and elsewhere at a place
abbrev pub only_where : ℕ → ℕ → Piece
only_where on otherwise = at_its_place (λ here. does (i.JumpIf on (here + 2) ∷ i.Jump otherwise ∷ []))

-- so many parts, from a place on, in the order of the fields
abbrev pub each_part : ℕ → ℕ → (ℕ → Piece) → Piece
each_part zero k part = nothing
each_part (suc n) k part = behind (part k) (each_part n (suc k) part)

-- the same, where each part is told whether something was tested before it
abbrev pub each_test : ℕ → ℕ → (ℕ → Bool) → (ℕ → Bool → Piece) → Bool → Piece
each_test zero k tested part before = nothing
each_test (suc n) k tested part before = behind (part k before) (each_test n (suc k) tested part (before || tested k))

-- the number of a pattern
abbrev pub number_of_pattern : Pat → ℕ
number_of_pattern (Wildcard s) = s.number
number_of_pattern (LitPat s x) = s.number
number_of_pattern (Name s x y) = s.number
number_of_pattern (Constructor s x ps) = s.number
number_of_pattern (Either s ps) = s.number
number_of_pattern (Fields s fs) = s.number

-- what was matched with a pattern ends; a value needs no end
abbrev pub end_of_part : Site → Pat → ℕ → Piece
end_of_part m p from = does (drop_unless_value (m.is_value (number_of_pattern p)) from)

-- registers one behind the other
abbrev pub registers_from : ℕ → ℕ → List ℕ
registers_from r zero = []
registers_from r (suc n) = r ∷ registers_from (suc r) n

-- so many registers are held one above the other
abbrev pub holds_from : ℕ → ℕ → Piece
holds_from r zero = nothing
holds_from r (suc n) = behind (holds holding.Operand r) (holds_from (suc r) n)

-- Whether some value of its type may not fit a pattern.
abbrev pub is_tested_literal : Literal → Bool
is_tested_literal literal.Nil = false
is_tested_literal x = true

abbrev pub has_tag : Option ℕ → Bool
has_tag None = false
has_tag (Some x) = true

abbrev mutual
  pub is_tested : Site → Pat → Bool
  is_tested m (Wildcard s) = false
  is_tested m (LitPat s x) = is_tested_literal x
  is_tested m (Name s x y) = false
  is_tested m (Constructor s x ps) = has_tag (m.tested_tag s.number) || any_tested m ps
  is_tested m (Either s ps) = all_tested m ps
  is_tested m (Fields s fs) = any_field_tested m fs

  pub any_tested : Site → Pats → Bool
  any_tested m NoPat = false
  any_tested m (AndPat p ps) = is_tested m p || any_tested m ps

  pub all_tested : Site → Pats → Bool
  all_tested m NoPat = true
  all_tested m (AndPat p ps) = is_tested m p && all_tested m ps

  pub any_field_tested : Site → FieldPats → Bool
  any_field_tested m NoField = false
  any_field_tested m (AndField x p fs) = is_tested m p || any_field_tested m fs

-- whether the part at a place is tested: by its place in a list, or by the name of its field
abbrev pub is_nth_tested : Site → Pats → ℕ → Bool
is_nth_tested m NoPat k = false
is_nth_tested m (AndPat p ps) zero = is_tested m p
is_nth_tested m (AndPat p ps) (suc k) = is_nth_tested m ps k

abbrev pub is_named_tested : Site → ℕ → FieldPats → ℕ → Bool
is_named_tested m n NoField k = false
is_named_tested m n (AndField x p fs) k = if m.field_place n x == k then is_tested m p else is_named_tested m n fs k

-- The test of a literal. A copy of the value is compared, so that the value stays.
abbrev pub literal_test : Site → Literal → ℕ → ℕ → List Instr
literal_test m (literal.Bool true) to other = []
literal_test m (literal.Bool false) to other = i.Prim row.bool_is_false to (to ∷ []) ∷ []
literal_test m (literal.Int x) to other = i.Const other (m.constant (literal.Int x)) ∷ i.Prim row.int_equal to (to ∷ other ∷ []) ∷ []
literal_test m (literal.Text x) to other = i.Const other (m.constant (literal.Text x)) ∷ i.Prim row.string_equal to (to ∷ other ∷ []) ∷ []
literal_test m literal.Nil to other = i.Const to (m.constant (literal.Bool true)) ∷ []

-- the test of a tag, where the type has two constructors
abbrev pub tag_test : Option ℕ → ℕ → ℕ → ℕ → List Instr
tag_test None from to other = []
tag_test (Some k) from to other = i.Tag to from ∷ i.Const other k ∷ i.Prim row.int_equal to (to ∷ other ∷ []) ∷ []

-- behind tests it goes on only where they held
abbrev pub further : Bool → ℕ → ℕ → Piece
further before to end = choose before (only_where to end) nothing

-- the test of an object: that of its tag, and then its parts, of which the first that fails ends it
abbrev pub object_test : Site → ℕ → (ℕ → Bool) → (ℕ → Bool → ℕ → Piece) → ℕ → ℕ → Piece
object_test m n tested part from to =
    told_its_end
    (λ end.
    behind (with_free m (λ other. does (tag_test (m.tested_tag n) from to other)))
    (each_test (m.field_count n) 0 tested (λ k before. part k before end) (has_tag (m.tested_tag n))))

-- the test of a part, where it is tested: its borrow ends behind the test
abbrev pub part_test : Site → Pat → Bool → ℕ → ℕ → ℕ → ℕ → (ℕ → Piece) → Piece
part_test m p before k from to end test =
    choose (is_tested m p)
    (behind (further before to end) (meanwhile m (λ r. behind (does (i.LoadBorrow r from k ∷ [])) (behind (test r) (end_of_part m p r)))))
    nothing

-- a truth value comes into a register
abbrev pub puts_true : Site → ℕ → Piece
puts_true m to = does (i.Const to (m.constant (literal.Bool true)) ∷ [])

-- Whether the value in a register fits a pattern comes into another one. The value stays.
abbrev mutual
  pub test : Site → Pat → ℕ → ℕ → Piece
  test m (Wildcard s) from to = puts_true m to
  test m (Name s x y) from to = puts_true m to
  test m (LitPat s x) from to = with_free m (λ other. does (i.Copy to from ∷ literal_test m x to other))
  test m (Either s ps) from to = told_its_end (λ end. test_any m ps from to end)
  test m (Constructor s x ps) from to = object_test m s.number (is_nth_tested m ps) (λ k before end. test_nth m ps k before k from to end) from to
  test m (Fields s fs) from to = object_test m s.number (is_named_tested m s.number fs) (λ k before end. test_named m s.number fs k before from to end) from to

  -- the first alternative that fits ends it
  pub test_any : Site → Pats → ℕ → ℕ → ℕ → Piece
  test_any m NoPat from to end = nothing
  test_any m (AndPat p ps) from to end = behind (test m p from to) (behind (does (i.JumpIf to end ∷ [])) (test_any m ps from to end))

  pub test_nth : Site → Pats → ℕ → Bool → ℕ → ℕ → ℕ → ℕ → Piece
  test_nth m NoPat j before k from to end = nothing
  test_nth m (AndPat p ps) zero before k from to end = part_test m p before k from to end (λ r. test m p r to)
  test_nth m (AndPat p ps) (suc j) before k from to end = test_nth m ps j before k from to end

  pub test_named : Site → ℕ → FieldPats → ℕ → Bool → ℕ → ℕ → ℕ → Piece
  test_named m n NoField k before from to end = nothing
  test_named m n (AndField x p fs) k before from to end =
      choose (m.field_place n x == k) (part_test m p before k from to end (λ r. test m p r to)) (test_named m n fs k before from to end)

-- it goes on only where a pattern fits, and elsewhere at a place; the register of the answer is free again
abbrev pub only_where_fits : Site → Pat → ℕ → ℕ → Piece
only_where_fits m p from otherwise = with_free m (λ to. behind (meanwhile m (λ r. test m p from to)) (only_where to otherwise))

-- an alternative that isn't the last one: where it doesn't fit, the others are tried, and behind it all is at its end
abbrev pub alternative : Site → Pat → ℕ → ℕ → Piece → Piece → Piece
alternative m p from end chosen others =
    told_the_place_between (λ otherwise. behind (only_where_fits m p from otherwise) (behind chosen (does (i.Jump end ∷ [])))) others

-- a part is lent out of an object, and something is done with the borrow
abbrev pub lends : Site → ℕ → ℕ → (ℕ → Piece) → Piece
lends m k from a = meanwhile m (λ r. behind (does (i.LoadBorrow r from k ∷ [])) (a r))

-- an object is given up, its fields go to registers that are held one above the other, and each is done with in order
abbrev pub apart : Site → ℕ → ℕ → (ℕ → ℕ → Piece) → Piece
apart m n object part =
    with_free m
    (λ first.
    released
    (behind (holds_from first (m.field_count n))
    (behind (does (i.TakeApart (registers_from first (m.field_count n)) object ∷ []))
    (each_part (m.field_count n) 0 (λ k. part (first + k) k)))))

-- the parts of an object are bound below a borrow of it, which ends then
abbrev pub below : Site → ℕ → ℕ → (ℕ → Piece) → Piece
below m n from part = behind (each_part (m.field_count n) 0 part) (does (i.Drop from ∷ []))

-- a part below a borrow: a name gets a borrow, and parts of it are bound below one
abbrev pub part_below : Site → Pat → ℕ → ℕ → (ℕ → Piece) → Piece
part_below m (Wildcard s) k from bind = nothing
part_below m (LitPat s x) k from bind = nothing
part_below m (Name s x y) k from bind = does (i.LoadBorrow (m.register (m.variable s.number)) from k ∷ [])
part_below m (Constructor s x ps) k from bind = lends m k from bind
part_below m (Either s ps) k from bind = lends m k from bind
part_below m (Fields s fs) k from bind = lends m k from bind

-- a field that no pattern names is dropped
abbrev pub field_ends : Site → ℕ → ℕ → ℕ → Piece
field_ends m n k from = does (drop_unless_value (m.is_value_field n k) from)

-- The chosen arm takes an owned value apart: each part goes to its variable or ends, in the order of the fields. Below a
-- borrow the variables get borrows, and then the borrow ends.
abbrev mutual
  pub bind : Site → Pat → Bool → ℕ → Piece
  bind m (Wildcard s) lent from = does (drop_unless_value (m.is_value s.number) from)
  bind m (LitPat s x) lent from = does (drop_unless_value (m.is_value s.number) from)
  bind m (Name s x y) lent from = does (i.Move (m.register (m.variable s.number)) from ∷ [])
  bind m (Either s ps) lent from = told_its_end (λ end. bind_first m ps lent from end)
  bind m (Constructor s x ps) lent from =
      choose (lent || m.is_borrow s.number) (below m s.number from (λ k. below_nth m ps k k from)) (apart m s.number from (λ r k. apart_nth m s.number ps k k r))
  bind m (Fields s fs) lent from =
      choose (lent || m.is_borrow s.number) (below m s.number from (λ k. below_named m s.number fs k from)) (apart m s.number from (λ r k. apart_named m s.number fs k r))

  -- by the first alternative that fits; the last one fits where none before it does
  pub bind_first : Site → Pats → Bool → ℕ → ℕ → Piece
  bind_first m NoPat lent from end = nothing
  bind_first m (AndPat p NoPat) lent from end = bind m p lent from
  bind_first m (AndPat p (AndPat q qs)) lent from end = alternative m p from end (bind m p lent from) (bind_first m (AndPat q qs) lent from end)

  -- a part that was taken out
  pub apart_nth : Site → ℕ → Pats → ℕ → ℕ → ℕ → Piece
  apart_nth m n NoPat j k from = field_ends m n k from
  apart_nth m n (AndPat p ps) zero k from = bind m p false from
  apart_nth m n (AndPat p ps) (suc j) k from = apart_nth m n ps j k from

  pub apart_named : Site → ℕ → FieldPats → ℕ → ℕ → Piece
  apart_named m n NoField k from = field_ends m n k from
  apart_named m n (AndField x p fs) k from = choose (m.field_place n x == k) (bind m p false from) (apart_named m n fs k from)

  -- a part below a borrow
  pub below_nth : Site → Pats → ℕ → ℕ → ℕ → Piece
  below_nth m NoPat j k from = nothing
  below_nth m (AndPat p ps) zero k from = part_below m p k from (λ r. bind m p true r)
  below_nth m (AndPat p ps) (suc j) k from = below_nth m ps j k from

  pub below_named : Site → ℕ → FieldPats → ℕ → ℕ → Piece
  below_named m n NoField k from = nothing
  below_named m n (AndField x p fs) k from =
      choose (m.field_place n x == k) (part_below m p k from (λ r. bind m p true r)) (below_named m n fs k from)

-- whether a pattern binds a variable
abbrev mutual
  pub binds : Site → ℕ → Pat → Bool
  binds m n (Wildcard s) = false
  binds m n (LitPat s x) = false
  binds m n (Name s x y) = m.variable s.number == n
  binds m n (Constructor s x ps) = any_binds m n ps
  binds m n (Either s ps) = any_binds m n ps
  binds m n (Fields s fs) = any_field_binds m n fs

  pub any_binds : Site → ℕ → Pats → Bool
  any_binds m n NoPat = false
  any_binds m n (AndPat p ps) = binds m n p || any_binds m n ps

  pub any_field_binds : Site → ℕ → FieldPats → Bool
  any_field_binds m n NoField = false
  any_field_binds m n (AndField x p fs) = binds m n p || any_field_binds m n fs

-- the part that binds a variable: a name is read as it is, and what stands deeper by a borrow that ends then
abbrev pub part_view : Site → Pat → ℕ → ℕ → ℕ → (ℕ → Piece) → Piece
part_view m (Name s x y) k from to view = does (i.LoadBorrow to from k ∷ [])
part_view m p k from to view = lends m k from (λ r. behind (view r) (end_of_part m p r))

-- What a pattern binds to a variable is read out of the value in a register into another one. The value stays.
abbrev mutual
  pub view : Site → ℕ → Pat → ℕ → ℕ → Piece
  view m n (Wildcard s) from to = nothing
  view m n (LitPat s x) from to = nothing
  view m n (Name s x y) from to = does (i.Borrow to from ∷ [])
  view m n (Either s ps) from to = told_its_end (λ end. view_first m n ps from to end)
  view m n (Constructor s x ps) from to = view_nth m n ps 0 from to
  view m n (Fields s fs) from to = view_named m n s.number fs from to

  pub view_first : Site → ℕ → Pats → ℕ → ℕ → ℕ → Piece
  view_first m n NoPat from to end = nothing
  view_first m n (AndPat p NoPat) from to end = view m n p from to
  view_first m n (AndPat p (AndPat q qs)) from to end = alternative m p from end (view m n p from to) (view_first m n (AndPat q qs) from to end)

  pub view_nth : Site → ℕ → Pats → ℕ → ℕ → ℕ → Piece
  view_nth m n NoPat k from to = nothing
  view_nth m n (AndPat p ps) k from to = choose (binds m n p) (part_view m p k from to (λ r. view m n p r to)) (view_nth m n ps (suc k) from to)

  pub view_named : Site → ℕ → ℕ → FieldPats → ℕ → ℕ → Piece
  view_named m n j NoField from to = nothing
  view_named m n j (AndField x p fs) from to =
      choose (binds m n p) (part_view m p (m.field_place j x) from to (λ r. view m n p r to)) (view_named m n j fs from to)

-- the test of an arm, which leaves whether it fits in the free register
abbrev pub tests : Site → Pat → ℕ → Piece
tests m p from = meanwhile m (λ to. test m p from to)

-- what a guard reads of the value that is matched, into the free register
abbrev pub views : Site → ℕ → Pat → ℕ → Piece
views m n p from = with_free m (λ to. behind (meanwhile m (λ r. view m n p from to)) (giving (given.At to)))
