-- The rows of String.
use Rattle.std.specs.Prelude.{ℕ, ℤ, pos, ◌+◌, ◌==◌, nat_eq, not, if◌then◌else◌, Option, None, Some, Err, List, ◌++◌, length, slice_index}
use Rattle.std.specs.List.{starts_with}
use Rattle.std.specs.Str.{bytes_eq}
use Rattle.ink_base.specs.declared.limits.Limit.TheVariants as limit
use Rattle.ink_base.specs.declared.value.Value.{Value}
use Rattle.ink_base.specs.declared.value.Value.TheVariants as v
use Rattle.ink_base.specs.Panics.{index_text}
use Rattle.ink_code.specs.declared.wrong.Wrong.TheVariants as wrong
use Rattle.ink_code.specs.Machine.{after, passed}
use Rattle.ink_code.specs.Moves.{text_of}
use Rattle.ink_code.specs.RowNumbers as rows
use Rattle.ink_code.specs.Rows.{Computation, computes, raises, single, pair, int_of, place_in}

-- a row of one text
abbrev pub of_text : List Value → (List ℕ → Computation) → Computation
of_text values row = after (single values) (λ value. after (text_of value) row)

-- a row of two texts
abbrev pub of_texts : List Value → (List ℕ → List ℕ → Computation) → Computation
of_texts values row = after (pair values) (λ both. after (text_of both.0) (λ a. after (text_of both.1) (λ b. row a b)))

abbrev pub joins_unless : Option (List ℕ) → List ℕ → List ℕ → Computation
joins_unless None a b = computes (v.Txt (a ++ b))
joins_unless (Some text) a b = raises text

-- both texts in order, where that is no longer than the limit
unfoldable pub join_row : List ℕ → List Value → Computation
join_row limits values = of_texts values (λ a b. joins_unless (passed limit.Text (length a + length b) limits) a b)

unfoldable pub same_text_row : List Value → Computation
same_text_row values = of_texts values (λ a b. computes (v.Bool (bytes_eq a b)))

unfoldable pub other_text_row : List Value → Computation
other_text_row values = of_texts values (λ a b. computes (v.Bool (not (bytes_eq a b))))

-- how many bytes a text has
unfoldable pub text_size_row : List Value → Computation
text_size_row values = of_text values (λ text. computes (v.Int (pos (length text))))

unfoldable pub text_empty_row : List Value → Computation
text_empty_row values = of_text values (λ text. computes (v.Bool (length text == 0)))

abbrev pub byte_at : List ℕ → ℤ → Option ℕ → Computation
byte_at text index None = raises (index_text index (length text))
byte_at text index (Some place) = computes (v.Int (pos (slice_index text place)))

-- the byte in a place of a text
unfoldable pub byte_row : List Value → Computation
byte_row values =
    after (pair values) (λ both. after (text_of both.0) (λ text. after (int_of both.1) (λ index.
    byte_at text index (place_in index (length text)))))

-- whether a text begins with another
unfoldable pub starts_with_row : List Value → Computation
starts_with_row values = of_texts values (λ text front. computes (v.Bool (starts_with nat_eq text front)))

unfoldable pub text_to_string_row : List Value → Computation
text_to_string_row values = of_text values (λ text. computes (v.Txt text))

-- the rows by number
unfoldable pub text_rows : List ℕ → ℕ → List Value → Computation
text_rows limits row values =
    if row == rows.string_join then join_row limits values
    else (if row == rows.string_equal then same_text_row values
    else (if row == rows.string_unequal then other_text_row values
    else (if row == rows.string_size then text_size_row values
    else (if row == rows.string_is_empty then text_empty_row values
    else (if row == rows.string_byte then byte_row values
    else (if row == rows.string_starts_with then starts_with_row values
    else (if row == rows.string_to_string then text_to_string_row values
    else Err wrong.Absent)))))))
