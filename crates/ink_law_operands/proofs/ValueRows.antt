-- The rows that only compute are wrong where the table says so.
use Rattle.std.proofs.Common.{◌≡◌, ℕ, ◌+◌, ℤ, Bool, true, false, Option, None, Some, Result, Ok, Err, List, [], ◌∷◌, refl}
use Rattle.std.specs.Prelude.{if◌then◌else◌, pos, ◌+ℤ◌, ◌-ℤ◌, ◌*ℤ◌, drop, take}
use Rattle.std.specs.Int.{int_shl, int_shr}
use Rattle.std.specs.Ordering.{int_eq}
use Rattle.ink_base.specs.declared.row.Slot.TheVariants as slot
use Rattle.ink_base.specs.declared.value.Value.{Value}
use Rattle.ink_base.specs.declared.value.Value.TheVariants as v
use Rattle.ink_base.specs.Panics.{overflow_text, division_text}
use Rattle.ink_base.specs.Rows.{rows}
use Rattle.ink_code.specs.declared.wrong.Wrong.{Wrong}
use Rattle.ink_code.specs.BoolRows.{of_truths, bool_rows, same_row, other_row, false_row, bool_to_string_row}
use Rattle.ink_code.specs.IntRows.{of_ints, int_rows, divided_row, shift_by, shift_of, floor_quotient, floor_rest, int_to_string_row, add_row, subtract_row, multiply_row, divide_row, rest_row, equal_row, unequal_row, less_row, at_most_row, greater_row, at_least_row, bit_and_row, bit_or_row, bit_xor_row, shift_up_row, shift_down_row}
use Rattle.ink_code.specs.Machine.{after}
use Rattle.ink_code.specs.Moves.{text_of, truth_of}
use Rattle.ink_code.specs.Prims.{value_rows}
use Rattle.ink_code.specs.RowNumbers as number
use Rattle.ink_code.specs.Rows.{Computation, computes, raises, single, int_of, int_or_overflow, is_int}
use Rattle.ink_code.specs.TextRows.{of_text, of_texts, text_rows, join_row, joins_unless, same_text_row, other_text_row, text_size_row, text_empty_row, byte_row, byte_at, starts_with_row, text_to_string_row}
use Rattle.ink_law_operands.proofs.Each.{Each, each-row}
use Rattle.ink_law_operands.specs.Judged.{ValueRowsJudge, JudgesValues}
use Rattle.ink_law_operands.specs.Taken.{wrong_in, of_slots, taken}
use mir.Syntax.{w64}

-- what is computed of any operands isn't wrong
abbrev IsSound : {A : Type 0} → (A → Computation) → Type 0
IsSound {A} row = (a : A) → wrong_in (row a) ≡ None

abbrev AreSound : {A B : Type 0} → (A → B → Computation) → Type 0
AreSound {A} {B} row = (a : A) (b : B) → wrong_in (row a b) ≡ None

at_one : {A : Type 0} (r : Result A Wrong) (row : A → Computation) (x : Value) → IsSound row → wrong_in (after r row) ≡ wrong_in (after (after r (λ a. Ok x)) (λ one. of_slots [] []))
unfolding after
at_one (Err why) row x sound = refl
at_one (Ok a) row x sound = sound a

at_both : {A B : Type 0} (r : Result A Wrong) (s : Result B Wrong) (row : A → B → Computation) (x y : Value) → AreSound row → wrong_in (after r (λ a. after s (λ b. row a b))) ≡ wrong_in (after (after r (λ a. Ok x)) (λ one. after (after s (λ b. Ok y)) (λ other. of_slots [] [])))
unfolding after
at_both (Err why) s row x y sound = refl
at_both (Ok a) (Err why) row x y sound = refl
at_both (Ok a) (Ok b) row x y sound = sound a b

an_int : (row : ℤ → Computation) → IsSound row → (values : List Value) → wrong_in (after (single values) (λ value. after (int_of value) row)) ≡ wrong_in (taken (slot.Int ∷ []) values)
unfolding after
an_int row sound [] = refl
an_int row sound (x ∷ []) = at_one (int_of x) row x sound
an_int row sound (x ∷ y ∷ others) = refl

a_truth : (row : Bool → Computation) → IsSound row → (values : List Value) → wrong_in (after (single values) (λ value. after (truth_of value) row)) ≡ wrong_in (taken (slot.Bool ∷ []) values)
unfolding after
a_truth row sound [] = refl
a_truth row sound (x ∷ []) = at_one (truth_of x) row x sound
a_truth row sound (x ∷ y ∷ others) = refl

a_text : (row : List ℕ → Computation) → IsSound row → (values : List Value) → wrong_in (of_text values row) ≡ wrong_in (taken (slot.Str ∷ []) values)
unfolding after
a_text row sound [] = refl
a_text row sound (x ∷ []) = at_one (text_of x) row x sound
a_text row sound (x ∷ y ∷ others) = refl

ints : (row : ℤ → ℤ → Computation) → AreSound row → (values : List Value) → wrong_in (of_ints values row) ≡ wrong_in (taken (slot.Int ∷ slot.Int ∷ []) values)
unfolding after
ints row sound [] = refl
ints row sound (x ∷ []) = refl
ints row sound (x ∷ y ∷ []) = at_both (int_of x) (int_of y) row x y sound
ints row sound (x ∷ y ∷ z ∷ others) = refl

truths : (test : Bool → Bool → Bool) (values : List Value) → wrong_in (of_truths values test) ≡ wrong_in (taken (slot.Bool ∷ slot.Bool ∷ []) values)
unfolding after
truths test [] = refl
truths test (x ∷ []) = refl
truths test (x ∷ y ∷ []) = at_both (truth_of x) (truth_of y) _ x y (λ a b. refl)
truths test (x ∷ y ∷ z ∷ others) = refl

texts : (row : List ℕ → List ℕ → Computation) → AreSound row → (values : List Value) → wrong_in (of_texts values row) ≡ wrong_in (taken (slot.Str ∷ slot.Str ∷ []) values)
unfolding after
texts row sound [] = refl
texts row sound (x ∷ []) = refl
texts row sound (x ∷ y ∷ []) = at_both (text_of x) (text_of y) row x y sound
texts row sound (x ∷ y ∷ z ∷ others) = refl

byte-sound : (text : List ℕ) (index : ℤ) (place : Option ℕ) → wrong_in (byte_at text index place) ≡ None
byte-sound text index None = refl
byte-sound text index (Some place) = refl

byte : (values : List Value) → wrong_in (byte_row values) ≡ wrong_in (taken (slot.Str ∷ slot.Int ∷ []) values)
unfolding after byte_row
byte [] = refl
byte (x ∷ []) = refl
byte (x ∷ y ∷ []) = at_both (text_of x) (int_of y) _ x y (λ text index. byte-sound text index _)
byte (x ∷ y ∷ z ∷ others) = refl

either : (test : Bool) (one other : Computation) → wrong_in one ≡ None → wrong_in other ≡ None → wrong_in (if test then one else other) ≡ None
either true one other first second = first
either false one other first second = second

within : (number : ℤ) → wrong_in (int_or_overflow number) ≡ None
within number = either (is_int number) (computes (v.Int number)) (raises overflow_text) refl refl

divided : (op : ℤ → ℤ → ℤ) → AreSound (divided_row op)
divided op a b = either (int_eq b (pos 0)) (raises division_text) (int_or_overflow (op a b)) refl (within (op a b))

shifted : (op : ℤ → ℕ → ℤ) (a : ℤ) (bits : Option ℕ) → wrong_in (shift_by op a bits) ≡ None
shifted op a None = refl
shifted op a (Some bits) = refl

joined : (told : Option (List ℕ)) (a b : List ℕ) → wrong_in (joins_unless told a b) ≡ None
joined None a b = refl
joined (Some text) a b = refl

-- each row of Int, in the order of the table
int-rows : Each (take number.first_of_bool rows) JudgesValues
unfolding rows value_rows int_rows add_row subtract_row multiply_row divide_row rest_row equal_row unequal_row less_row at_most_row greater_row at_least_row bit_and_row bit_or_row bit_xor_row shift_up_row shift_down_row int_to_string_row
int-rows = (
  λ limits. ints _ (λ a b. within (a +ℤ b)),
  (
    λ limits. ints _ (λ a b. within (a -ℤ b)),
    (
      λ limits. ints _ (λ a b. within (a *ℤ b)),
      (
        λ limits. ints _ (divided floor_quotient),
        (
          λ limits. ints _ (divided floor_rest),
          (
            λ limits. ints _ (λ a b. refl),
            (
              λ limits. ints _ (λ a b. refl),
              (
                λ limits. ints _ (λ a b. refl),
                (
                  λ limits. ints _ (λ a b. refl),
                  (
                    λ limits. ints _ (λ a b. refl),
                    (
                      λ limits. ints _ (λ a b. refl),
                      (
                        λ limits. ints _ (λ a b. refl),
                        (
                          λ limits. ints _ (λ a b. refl),
                          (
                            λ limits. ints _ (λ a b. refl),
                            (
                              λ limits. ints _ (λ a b. shifted (int_shl w64) a (shift_of b)),
                              (
                                λ limits. ints _ (λ a b. shifted int_shr a (shift_of b)),
                                (
                                  λ limits. an_int _ (λ number. refl),
                                  tt,
                                ),
                              ),
                            ),
                          ),
                        ),
                      ),
                    ),
                  ),
                ),
              ),
            ),
          ),
        ),
      ),
    ),
  ),
)

-- each of Bool
bool-rows : Each (drop number.first_of_bool (take number.first_of_string rows)) (λ index. JudgesValues (number.first_of_bool + index))
unfolding rows value_rows bool_rows same_row other_row false_row bool_to_string_row
bool-rows = (
  λ limits. truths _,
  (
    λ limits. truths _,
    (
      λ limits. a_truth _ (λ truth. refl),
      (
        λ limits. a_truth _ (λ truth. refl),
        tt,
      ),
    ),
  ),
)

-- each of String
text-rows : Each (drop number.first_of_string (take number.first_of_array rows)) (λ index. JudgesValues (number.first_of_string + index))
unfolding rows value_rows text_rows join_row same_text_row other_text_row text_size_row text_empty_row starts_with_row text_to_string_row
text-rows = (
  λ limits. texts _ (λ a b. joined _ a b),
  (
    λ limits. texts _ (λ a b. refl),
    (
      λ limits. texts _ (λ a b. refl),
      (
        λ limits. a_text _ (λ text. refl),
        (
          λ limits. a_text _ (λ text. refl),
          (
            λ limits. byte,
            (
              λ limits. texts _ (λ a b. refl),
              (
                λ limits. a_text _ (λ text. refl),
                tt,
              ),
            ),
          ),
        ),
      ),
    ),
  ),
)

pub value-rows-judge : ValueRowsJudge
value-rows-judge = (
  (λ index row there. each-row _ _ int-rows index row there),
  (λ index row there. each-row _ _ bool-rows index row there),
  (λ index row there. each-row _ _ text-rows index row there),
)
