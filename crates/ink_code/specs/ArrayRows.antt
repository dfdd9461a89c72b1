-- The rows of Array. The receiver's borrow ends with the row.
use Rattle.std.specs.Prelude.{ℕ, ℤ, pos, ◌-◌, ◌==◌, if◌then◌else◌, Option, None, Some, Err, List, [], ◌∷◌, ◌++◌, length, take, slice_get}
use Rattle.ink_base.specs.declared.ident.ObjectId.{ObjectId}
use Rattle.ink_base.specs.declared.limits.Limit.TheVariants as limit
use Rattle.ink_base.specs.declared.value.Value.{Value}
use Rattle.ink_base.specs.declared.value.Value.TheVariants as v
use Rattle.ink_base.specs.Actions.{reached}
use Rattle.ink_base.specs.Panics.{cycle_text, index_text}
use Rattle.ink_code.specs.declared.wrong.Wrong.TheVariants as wrong
use Rattle.ink_code.specs.Machine.{after, when, with_objects}
use Rattle.ink_base.specs.Objects.{changed_object, with_field}
use Rattle.ink_code.specs.Kinds.{array_kind}
use Rattle.ink_code.specs.Objects.{with_fields}
use Rattle.ink_code.specs.Process.{Process}
use Rattle.ink_code.specs.RowNumbers as rows
use Rattle.ink_code.specs.Rows.{RowOutcome, gives, fails, unless_fails, unless_row_full, no_operand, single, pair, int_of, place_in, receives, gives_option, gives_lent}
use Rattle.ink_code.specs.Trees.{is_under}

-- how many items an array has
unfoldable pub size_row : List Value → Process → RowOutcome
size_row values p =
    receives array_kind values p (λ id found operands q. no_operand operands (gives (v.Int (pos (length found.fields))) q))

unfoldable pub empty_row : List Value → Process → RowOutcome
empty_row values p =
    receives array_kind values p (λ id found operands q. no_operand operands (gives (v.Bool (length found.fields == 0)) q))

-- a panic where the object is in the tree of a value that is to go under it
abbrev pub unless_cycle : ObjectId → Value → Process → RowOutcome → RowOutcome
unless_cycle id value p further = when (is_under id value p.objects) (fails cycle_text p) further

-- a process with another array in that one's place
abbrev pub with_items : ObjectId → List Value → Process → Process
with_items id items p = with_objects (changed_object p.objects id (with_fields items)) p

-- a process with another item in a place of an array
abbrev pub with_item : ObjectId → ℕ → Value → Process → Process
with_item id place value p = with_objects (changed_object p.objects id (with_field place value)) p

-- an item goes behind the others
unfoldable pub push_row : List ℕ → List Value → Process → RowOutcome
push_row limits values p =
    receives array_kind values p (λ id found operands q. after (single operands) (λ value.
    unless_fails (reached limit.Array (length found.fields) limits) q (unless_cycle id value q
    (gives v.Nil (with_items id (found.fields ++ value ∷ []) q)))))

-- the last item is taken off and given in an Option
unfoldable pub pop_row : List ℕ → List Value → Process → RowOutcome
pop_row limits values p =
    receives array_kind values p (λ id found operands q. no_operand operands (unless_row_full limits q
    (let last = length found.fields - 1 in gives_option (slice_get found.fields last) (with_items id (take last found.fields) q))))

abbrev pub item_at : List Value → Option ℕ → Option Value
item_at items None = None
item_at items (Some place) = slice_get items place

-- a borrow of an item is given in an Option
unfoldable pub get_row : List ℕ → List Value → Process → RowOutcome
get_row limits values p =
    receives array_kind values p (λ id found operands q. after (single operands) (λ value. after (int_of value) (λ index.
    unless_row_full limits q (gives_lent (item_at found.fields (place_in index (length found.fields))) q))))

abbrev pub found_item : Option Value → ℕ → (ℕ → Value → RowOutcome) → RowOutcome
found_item None place further = Err wrong.Absent
found_item (Some value) place further = further place value

-- what is done with the item in a place: a panic where the index names none
abbrev pub at_item : ℤ → List Value → Process → Option ℕ → (ℕ → Value → RowOutcome) → RowOutcome
at_item index items p None further = fails (index_text index (length items)) p
at_item index items p (Some place) further = found_item (slice_get items place) place further

-- an item is put in a place, and the old one waits to be dropped
unfoldable pub set_row : List Value → Process → RowOutcome
set_row values p =
    receives array_kind values p (λ id found operands q. after (pair operands) (λ both. after (int_of both.0) (λ index.
    at_item index found.fields q (place_in index (length found.fields)) (λ place old. unless_cycle id both.1 q
    (let written = with_item id place both.1 q in gives v.Nil (record written { pending = old ∷ q.pending }))))))

-- an item is put in a place, and the old one is given
unfoldable pub swap_row : List Value → Process → RowOutcome
swap_row values p =
    receives array_kind values p (λ id found operands q. after (pair operands) (λ both. after (int_of both.0) (λ index.
    at_item index found.fields q (place_in index (length found.fields)) (λ place old. unless_cycle id both.1 q
    (gives old (with_item id place both.1 q))))))

-- all items are taken off, and wait to be dropped, the first in front
unfoldable pub clear_row : List Value → Process → RowOutcome
clear_row values p =
    receives array_kind values p (λ id found operands q. no_operand operands
    (let emptied = with_items id [] q in gives v.Nil (record emptied { pending = found.fields ++ q.pending })))

-- the rows by number
unfoldable pub array_rows : List ℕ → ℕ → List Value → Process → RowOutcome
array_rows limits row values p =
    if row == rows.array_size then size_row values p
    else (if row == rows.array_is_empty then empty_row values p
    else (if row == rows.array_push then push_row limits values p
    else (if row == rows.array_pop then pop_row limits values p
    else (if row == rows.array_get then get_row limits values p
    else (if row == rows.array_get_mut then get_row limits values p
    else (if row == rows.array_set then set_row values p
    else (if row == rows.array_swap then swap_row values p
    else (if row == rows.array_clear then clear_row values p
    else Err wrong.Absent))))))))
