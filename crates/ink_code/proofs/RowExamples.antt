-- What rows come to in small cases.
use Rattle.std.proofs.Common.{◌≡◌, ℕ, ◌+◌, ◌^◌, ◌-◌, ◌&&◌, pos, negsuc, Bool, true, false, Ok, Err, List, [], ◌∷◌, ◌++◌, map, take, refl}
use Rattle.std.specs.Prelude.{codes, is_ok}
use Rattle.std.specs.Fmt.{decimal}
use Rattle.ink_base.specs.declared.row.Kind.{Kind}
use Rattle.ink_base.specs.declared.row.Kind.TheVariants as kind
use Rattle.ink_base.specs.declared.row.Slot.{Slot}
use Rattle.ink_base.specs.declared.row.Slot.TheVariants as slot
use Rattle.ink_base.specs.declared.value.Value.{Value}
use Rattle.ink_base.specs.declared.value.Value.TheVariants as v
use Rattle.ink_base.specs.Limits.{default_numbers}
use Rattle.ink_base.specs.Panics.{index_text}
use Rattle.ink_base.specs.Rows.{Row, rows}
use Rattle.ink_code.specs.declared.wrong.Wrong.TheVariants as wrong
use Rattle.ink_code.specs.BoolRows.{bool_rows, same_row, other_row, false_row, bool_to_string_row}
use Rattle.ink_code.specs.IntRows.{int_rows, add_row, subtract_row, multiply_row, divide_row, rest_row, equal_row, unequal_row, less_row, at_most_row, greater_row, at_least_row, bit_and_row, bit_or_row, bit_xor_row, shift_up_row, shift_down_row, int_to_string_row}
use Rattle.ink_code.specs.Prims.{value_rows}
use Rattle.ink_code.specs.Machine.{after}
use Rattle.ink_code.specs.Rows.{Gives, Raises}
use Rattle.ink_code.specs.TextRows.{text_rows, join_row, same_text_row, other_text_row, text_size_row, text_empty_row, byte_row, starts_with_row, text_to_string_row}

sum_fits : int_rows 0 (v.Int (pos 2) ∷ v.Int (negsuc 4) ∷ []) ≡ Ok (Gives (v.Int (negsuc 2)))
unfolding int_rows add_row after
sum_fits = refl

sum_overflows : int_rows 0 (v.Int (pos (2 ^ 63 - 1)) ∷ v.Int (pos 1) ∷ []) ≡ Ok (Raises (codes "integer overflow"))
unfolding int_rows add_row after
sum_overflows = refl

-- the quotient is rounded down, whatever the signs
quotient_below : int_rows 3 (v.Int (negsuc 6) ∷ v.Int (pos 2) ∷ []) ≡ Ok (Gives (v.Int (negsuc 3)))
unfolding int_rows divide_row after
quotient_below = refl

quotient_by_negative : int_rows 3 (v.Int (pos 7) ∷ v.Int (negsuc 1) ∷ []) ≡ Ok (Gives (v.Int (negsuc 3)))
unfolding int_rows divide_row after
quotient_by_negative = refl

quotient_of_none : int_rows 3 (v.Int (pos 0) ∷ v.Int (negsuc 1) ∷ []) ≡ Ok (Gives (v.Int (pos 0)))
unfolding int_rows divide_row after
quotient_of_none = refl

quotient_of_negatives : int_rows 3 (v.Int (negsuc 6) ∷ v.Int (negsuc 1) ∷ []) ≡ Ok (Gives (v.Int (pos 3)))
unfolding int_rows divide_row after
quotient_of_negatives = refl

quotient_overflows : int_rows 3 (v.Int (negsuc (2 ^ 63 - 1)) ∷ v.Int (negsuc 0) ∷ []) ≡ Ok (Raises (codes "integer overflow"))
unfolding int_rows divide_row after
quotient_overflows = refl

by_zero : int_rows 4 (v.Int (pos 5) ∷ v.Int (pos 0) ∷ []) ≡ Ok (Raises (codes "division by zero"))
unfolding int_rows rest_row after
by_zero = refl

-- the rest has the divisor's sign
rest_above : int_rows 4 (v.Int (negsuc 6) ∷ v.Int (pos 2) ∷ []) ≡ Ok (Gives (v.Int (pos 1)))
unfolding int_rows rest_row after
rest_above = refl

rest_below : int_rows 4 (v.Int (pos 7) ∷ v.Int (negsuc 1) ∷ []) ≡ Ok (Gives (v.Int (negsuc 0)))
unfolding int_rows rest_row after
rest_below = refl

bits_of_negative : int_rows 11 (v.Int (negsuc 0) ∷ v.Int (pos 12) ∷ []) ≡ Ok (Gives (v.Int (pos 12)))
unfolding int_rows bit_and_row after
bits_of_negative = refl

shifted_away : int_rows 14 (v.Int (pos 3) ∷ v.Int (pos 63) ∷ []) ≡ Ok (Gives (v.Int (negsuc (2 ^ 63 - 1))))
unfolding int_rows shift_up_row after
shifted_away = refl

shifted_down_keeps_sign : int_rows 15 (v.Int (negsuc 4) ∷ v.Int (pos 1) ∷ []) ≡ Ok (Gives (v.Int (negsuc 2)))
unfolding int_rows shift_down_row after
shifted_down_keeps_sign = refl

shifted_too_far : int_rows 15 (v.Int (pos 1) ∷ v.Int (pos 64) ∷ []) ≡ Ok (Raises (codes "shift out of range"))
unfolding int_rows shift_down_row after
shifted_too_far = refl

text_of_negative : int_rows 16 (v.Int (negsuc 11) ∷ []) ≡ Ok (Gives (v.Txt (codes "-" ++ decimal 12)))
unfolding int_rows int_to_string_row after
text_of_negative = refl

sum_with_a_truth : int_rows 0 (v.Int (pos 2) ∷ v.Bool true ∷ []) ≡ Err wrong.Kind
unfolding int_rows add_row after
sum_with_a_truth = refl

sum_of_one : int_rows 0 (v.Int (pos 2) ∷ []) ≡ Err wrong.Absent
unfolding int_rows add_row after
sum_of_one = refl

both_false : bool_rows 17 (v.Bool false ∷ v.Bool false ∷ []) ≡ Ok (Gives (v.Bool true))
unfolding bool_rows same_row after
both_false = refl

joined_texts : text_rows default_numbers 21 (v.Txt (codes "ab") ∷ v.Txt (codes "c") ∷ []) ≡ Ok (Gives (v.Txt (codes "abc")))
unfolding text_rows join_row after
joined_texts = refl

byte_past_the_end : text_rows default_numbers 26 (v.Txt (codes "ab") ∷ v.Int (pos 2) ∷ []) ≡ Ok (Raises (index_text (pos 2) 2))
unfolding text_rows byte_row after
byte_past_the_end = refl

byte_before_the_start : text_rows default_numbers 26 (v.Txt (codes "ab") ∷ v.Int (negsuc 0) ∷ []) ≡ Ok (Raises (index_text (negsuc 0) 2))
unfolding text_rows byte_row after
byte_before_the_start = refl

longer_front : text_rows default_numbers 27 (v.Txt (codes "ab") ∷ v.Txt (codes "abc") ∷ []) ≡ Ok (Gives (v.Bool false))
unfolding text_rows starts_with_row after
longer_front = refl

-- a value of a slot, and of a receiver
abbrev sample : Slot → Value
sample slot.Int = v.Int (pos 1)
sample slot.Bool = v.Bool true
sample slot.Str = v.Txt (codes "abc")
sample other = v.Nil

abbrev sample_receiver : Kind → Value
sample_receiver kind.Int = v.Int (pos 3)
sample_receiver kind.Bool = v.Bool true
sample_receiver kind.Str = v.Txt (codes "abc")
sample_receiver other = v.Nil

-- whether each row takes a receiver and operands of the kinds that the table tells; they are numbered from the first on
abbrev takes_kinds : ℕ → List Row → Bool
takes_kinds first [] = true
takes_kinds first (row ∷ rest) =
    is_ok (value_rows default_numbers first (sample_receiver row.receiver ∷ map sample row.operands)) && takes_kinds (first + 1) rest

-- the machine takes what the table says, of each row that only computes
value_rows_take_kinds : takes_kinds 0 (take 29 rows) ≡ true
unfolding rows value_rows int_rows bool_rows text_rows add_row subtract_row multiply_row divide_row rest_row equal_row unequal_row less_row at_most_row greater_row at_least_row bit_and_row bit_or_row bit_xor_row shift_up_row shift_down_row int_to_string_row same_row other_row false_row bool_to_string_row join_row same_text_row other_text_row text_size_row text_empty_row byte_row starts_with_row text_to_string_row after
value_rows_take_kinds = refl
