-- The rows of Int.
use Rattle.std.specs.Prelude.{ℕ, ℤ, pos, negsuc, neg_ℤ, ◌+ℤ◌, ◌-ℤ◌, ◌*ℤ◌, ◌+◌, ◌/◌, ◌==◌, suc, int_lt, int_le, nat_lt, not, if◌then◌else◌, Bool, Option, None, Some, Err, List}
use Rattle.std.specs.Fmt.{signed_decimal}
use Rattle.std.specs.Int.{int_bit_and, int_bit_or, int_bit_xor, int_shl, int_shr}
use Rattle.std.specs.Ordering.{int_eq}
use Rattle.ink_base.specs.declared.value.Value.{Value}
use Rattle.ink_base.specs.declared.value.Value.TheVariants as v
use Rattle.ink_base.specs.Panics.{division_text, shift_text}
use Rattle.ink_code.specs.declared.wrong.Wrong.TheVariants as wrong
use Rattle.ink_code.specs.Machine.{after}
use Rattle.ink_code.specs.RowNumbers as rows
use Rattle.ink_code.specs.Rows.{Computation, computes, raises, single, pair, int_of, int_or_overflow}
use mir.Syntax.{w64}

-- the quotient of two numbers, rounded down
abbrev pub floor_quotient : ℤ → ℤ → ℤ
floor_quotient (pos a) (pos b) = pos (a / b)
floor_quotient (pos a) (negsuc b) = neg_ℤ (pos ((a + b) / suc b))
floor_quotient (negsuc a) (pos b) = negsuc (a / b)
floor_quotient (negsuc a) (negsuc b) = pos (suc a / suc b)

-- what is left of a number beside its quotient, which has the divisor's sign
abbrev pub floor_rest : ℤ → ℤ → ℤ
floor_rest a b = a -ℤ (b *ℤ floor_quotient a b)

-- the number of bits by which a shift shifts, which is from 0 to 63
abbrev pub shift_of : ℤ → Option ℕ
shift_of (pos bits) = if nat_lt bits 64 then Some bits else None
shift_of (negsuc below) = None

-- a row of two Ints
abbrev pub of_ints : List Value → (ℤ → ℤ → Computation) → Computation
of_ints values row = after (pair values) (λ both. after (int_of both.0) (λ a. after (int_of both.1) (λ b. row a b)))

abbrev pub int_row : (ℤ → ℤ → ℤ) → ℤ → ℤ → Computation
int_row op a b = int_or_overflow (op a b)

abbrev pub divided_row : (ℤ → ℤ → ℤ) → ℤ → ℤ → Computation
divided_row op a b = if int_eq b (pos 0) then raises division_text else int_or_overflow (op a b)

abbrev pub test_row : (ℤ → ℤ → Bool) → ℤ → ℤ → Computation
test_row test a b = computes (v.Bool (test a b))

abbrev pub bits_row : (ℤ → ℤ → ℤ) → ℤ → ℤ → Computation
bits_row op a b = computes (v.Int (op a b))

abbrev pub shift_by : (ℤ → ℕ → ℤ) → ℤ → Option ℕ → Computation
shift_by op a None = raises shift_text
shift_by op a (Some bits) = computes (v.Int (op a bits))

abbrev pub shift_row : (ℤ → ℕ → ℤ) → ℤ → ℤ → Computation
shift_row op a b = shift_by op a (shift_of b)

-- the text of an Int: its decimal digits, with a sign where it is negative
unfoldable pub int_to_string_row : List Value → Computation
int_to_string_row values = after (single values) (λ value. after (int_of value) (λ number. computes (v.Txt (signed_decimal number))))

unfoldable pub add_row : List Value → Computation
add_row values = of_ints values (int_row (λ a b. a +ℤ b))

unfoldable pub subtract_row : List Value → Computation
subtract_row values = of_ints values (int_row (λ a b. a -ℤ b))

unfoldable pub multiply_row : List Value → Computation
multiply_row values = of_ints values (int_row (λ a b. a *ℤ b))

unfoldable pub divide_row : List Value → Computation
divide_row values = of_ints values (divided_row floor_quotient)

unfoldable pub rest_row : List Value → Computation
rest_row values = of_ints values (divided_row floor_rest)

unfoldable pub equal_row : List Value → Computation
equal_row values = of_ints values (test_row int_eq)

unfoldable pub unequal_row : List Value → Computation
unequal_row values = of_ints values (test_row (λ a b. not (int_eq a b)))

unfoldable pub less_row : List Value → Computation
less_row values = of_ints values (test_row int_lt)

unfoldable pub at_most_row : List Value → Computation
at_most_row values = of_ints values (test_row int_le)

unfoldable pub greater_row : List Value → Computation
greater_row values = of_ints values (test_row (λ a b. int_lt b a))

unfoldable pub at_least_row : List Value → Computation
at_least_row values = of_ints values (test_row (λ a b. int_le b a))

unfoldable pub bit_and_row : List Value → Computation
bit_and_row values = of_ints values (bits_row (int_bit_and w64))

unfoldable pub bit_or_row : List Value → Computation
bit_or_row values = of_ints values (bits_row (int_bit_or w64))

unfoldable pub bit_xor_row : List Value → Computation
bit_xor_row values = of_ints values (bits_row (int_bit_xor w64))

unfoldable pub shift_up_row : List Value → Computation
shift_up_row values = of_ints values (shift_row (int_shl w64))

unfoldable pub shift_down_row : List Value → Computation
shift_down_row values = of_ints values (shift_row int_shr)

-- the rows by number: the first seventeen of the table
unfoldable pub int_rows : ℕ → List Value → Computation
int_rows row values =
    if row == rows.int_add then add_row values
    else (if row == rows.int_subtract then subtract_row values
    else (if row == rows.int_multiply then multiply_row values
    else (if row == rows.int_divide then divide_row values
    else (if row == rows.int_rest then rest_row values
    else (if row == rows.int_equal then equal_row values
    else (if row == rows.int_unequal then unequal_row values
    else (if row == rows.int_less then less_row values
    else (if row == rows.int_at_most then at_most_row values
    else (if row == rows.int_greater then greater_row values
    else (if row == rows.int_at_least then at_least_row values
    else (if row == rows.int_bit_and then bit_and_row values
    else (if row == rows.int_bit_or then bit_or_row values
    else (if row == rows.int_bit_xor then bit_xor_row values
    else (if row == rows.int_shift_up then shift_up_row values
    else (if row == rows.int_shift_down then shift_down_row values
    else (if row == rows.int_to_string then int_to_string_row values
    else Err wrong.Absent))))))))))))))))
