-- The rows of Bool.
use Rattle.std.specs.Prelude.{ℕ, ◌==◌, not, if◌then◌else◌, Bool, true, false, Err, List, codes}
use Rattle.ink_base.specs.declared.value.Value.{Value}
use Rattle.ink_base.specs.declared.value.Value.TheVariants as v
use Rattle.ink_code.specs.declared.wrong.Wrong.TheVariants as wrong
use Rattle.ink_code.specs.Machine.{after}
use Rattle.ink_code.specs.Moves.{truth_of}
use Rattle.ink_code.specs.RowNumbers as rows
use Rattle.ink_code.specs.Rows.{Computation, computes, single, pair}

abbrev pub same_truth : Bool → Bool → Bool
same_truth true other = other
same_truth false other = not other

-- a row of two Bools
abbrev pub of_truths : List Value → (Bool → Bool → Bool) → Computation
of_truths values test =
    after (pair values) (λ both. after (truth_of both.0) (λ a. after (truth_of both.1) (λ b. computes (v.Bool (test a b)))))

unfoldable pub same_row : List Value → Computation
same_row values = of_truths values same_truth

unfoldable pub other_row : List Value → Computation
other_row values = of_truths values (λ a b. not (same_truth a b))

-- the opposite of a Bool
unfoldable pub false_row : List Value → Computation
false_row values = after (single values) (λ value. after (truth_of value) (λ truth. computes (v.Bool (not truth))))

-- the text of a Bool: true or false
unfoldable pub bool_to_string_row : List Value → Computation
bool_to_string_row values =
    after (single values) (λ value. after (truth_of value) (λ truth. computes (v.Txt (if truth then codes "true" else codes "false"))))

-- the rows by number
unfoldable pub bool_rows : ℕ → List Value → Computation
bool_rows row values =
    if row == rows.bool_equal then same_row values
    else (if row == rows.bool_unequal then other_row values
    else (if row == rows.bool_is_false then false_row values
    else (if row == rows.bool_to_string then bool_to_string_row values
    else Err wrong.Absent)))
