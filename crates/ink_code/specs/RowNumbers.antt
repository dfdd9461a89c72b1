-- The rows of the built-in methods, by their numbers in the table: those that are instructions of the machine.
use Rattle.std.specs.Prelude.{ℕ}

-- those of Int
abbrev pub int_add : ℕ
int_add = 0

abbrev pub int_subtract : ℕ
int_subtract = 1

abbrev pub int_multiply : ℕ
int_multiply = 2

abbrev pub int_divide : ℕ
int_divide = 3

abbrev pub int_rest : ℕ
int_rest = 4

abbrev pub int_equal : ℕ
int_equal = 5

abbrev pub int_unequal : ℕ
int_unequal = 6

abbrev pub int_less : ℕ
int_less = 7

abbrev pub int_at_most : ℕ
int_at_most = 8

abbrev pub int_greater : ℕ
int_greater = 9

abbrev pub int_at_least : ℕ
int_at_least = 10

abbrev pub int_bit_and : ℕ
int_bit_and = 11

abbrev pub int_bit_or : ℕ
int_bit_or = 12

abbrev pub int_bit_xor : ℕ
int_bit_xor = 13

abbrev pub int_shift_up : ℕ
int_shift_up = 14

abbrev pub int_shift_down : ℕ
int_shift_down = 15

abbrev pub int_to_string : ℕ
int_to_string = 16

-- those of Bool
abbrev pub first_of_bool : ℕ
first_of_bool = 17

abbrev pub bool_equal : ℕ
bool_equal = 17

abbrev pub bool_unequal : ℕ
bool_unequal = 18

abbrev pub bool_is_false : ℕ
bool_is_false = 19

abbrev pub bool_to_string : ℕ
bool_to_string = 20

-- those of String
abbrev pub first_of_string : ℕ
first_of_string = 21

abbrev pub string_join : ℕ
string_join = 21

abbrev pub string_equal : ℕ
string_equal = 22

abbrev pub string_unequal : ℕ
string_unequal = 23

abbrev pub string_size : ℕ
string_size = 24

abbrev pub string_is_empty : ℕ
string_is_empty = 25

abbrev pub string_byte : ℕ
string_byte = 26

abbrev pub string_starts_with : ℕ
string_starts_with = 27

abbrev pub string_to_string : ℕ
string_to_string = 28

-- those of Array
abbrev pub first_of_array : ℕ
first_of_array = 29

abbrev pub array_size : ℕ
array_size = 29

abbrev pub array_is_empty : ℕ
array_is_empty = 30

abbrev pub array_push : ℕ
array_push = 31

abbrev pub array_pop : ℕ
array_pop = 32

abbrev pub array_get : ℕ
array_get = 33

abbrev pub array_get_mut : ℕ
array_get_mut = 34

abbrev pub array_set : ℕ
array_set = 35

abbrev pub array_swap : ℕ
array_swap = 36

abbrev pub array_clear : ℕ
array_clear = 37

-- those of Option
abbrev pub first_of_option : ℕ
first_of_option = 38

abbrev pub option_is_some : ℕ
option_is_some = 38

abbrev pub option_is_none : ℕ
option_is_none = 39

abbrev pub option_get : ℕ
option_get = 40

abbrev pub option_as_ref : ℕ
option_as_ref = 41

abbrev pub option_as_mut : ℕ
option_as_mut = 42

-- that which makes a Stdout
abbrev pub stdout_new : ℕ
stdout_new = 47
