-- What the rows of the built-in methods leave of a process.
use Rattle.std.proofs.Common.{ℕ, ℤ, ◌==◌, nat_lt, Bool, true, false, Option, Some, None, List, [], ◌∷◌, refl, slice_get}
use Rattle.ink_base.specs.declared.ident.ObjectId.{ObjectId}
use Rattle.ink_base.specs.declared.object.Object.{Object}
use Rattle.ink_base.specs.declared.value.Value.{Value}
use Rattle.ink_base.specs.declared.value.Value.TheVariants as v
use Rattle.ink_base.specs.Objects.{with_field}
use Rattle.ink_code.specs.declared.code.Code.{Code}
use Rattle.ink_code.specs.declared.wrong.Wrong.TheVariants as wrong
use Rattle.ink_code.specs.ArrayRows.{size_row, empty_row, push_row, pop_row, get_row, set_row, swap_row, clear_row, array_rows, at_item, found_item, with_item, with_items}
use Rattle.ink_code.specs.Kinds.{option_kind, some_tag, none_tag, stdout_kind}
use Rattle.ink_code.specs.Machine.{with_objects}
use Rattle.ink_code.specs.Objects.{with_fields, lent}
use Rattle.ink_code.specs.OptionRows.{some_row, none_row, value_row, as_ref_row, stdout_row, option_rows, lends_value, has_value}
use Rattle.ink_code.specs.Prims.{row_step}
use Rattle.ink_code.specs.Process.{Process}
use Rattle.ink_code.specs.RowNumbers as rows
use Rattle.ink_code.specs.Rows.{Computed, Gives, Raises, RowOutcome, gives, fails, unless_fails, no_operand, receives, gives_made, gives_option, gives_lent}
use Rattle.ink_law_ownership.proofs.Counts.{NoMore-same, NoMore-copy, NoMore-borrow, NoMore-changed, NoMore-remove}
use Rattle.ink_law_ownership.proofs.Kept.{Same, Kept, same_itself, same_with, kept_same, kept_made}
use Rattle.ink_law_ownership.proofs.Right.{Right, right, wrong, given_right, after_right, needs_right, when_right, if_else}

-- what is shown of a row
abbrev pub RowOf : Process → Computed × Process → Type 0
RowOf p told = Kept p told.1

gives_right : (value : Value) (p q : Process) → Same p q → Right (RowOf p) (gives value q)
gives_right value p q s = right (RowOf p) (Gives value, q) (kept_same p q s)

fails_right : (text : List ℕ) (p q : Process) → Same p q → Right (RowOf p) (fails text q)
fails_right text p q s = right (RowOf p) (Raises text, q) (kept_same p q s)

unless_right : (text : Option (List ℕ)) (p q : Process) {further : RowOutcome} → Same p q → Right (RowOf p) further → Right (RowOf p) (unless_fails text q further)
unfolding unless_fails
unless_right None p q s h = h
unless_right (Some text) p q s h = fails_right text p q s

no_operand_right : (operands : List Value) (p : Process) (further : RowOutcome) → Right (RowOf p) further → Right (RowOf p) (no_operand operands further)
no_operand_right [] p further h = h
no_operand_right (value ∷ others) p further h = wrong (RowOf p) wrong.Absent

made_right : (kind tag : ℕ) (fields : List Value) (p q : Process) → Same p q → Right (RowOf p) (gives_made kind tag fields q)
made_right kind tag fields p q s = right (RowOf p) _ (kept_made p q kind tag fields s)

option_right : (item : Option Value) (p q : Process) → Same p q → Right (RowOf p) (gives_option item q)
option_right None p q s = made_right option_kind none_tag [] p q s
option_right (Some value) p q s = made_right option_kind some_tag (value ∷ []) p q s

lent_right : (item : Option Value) (p q : Process) → Same p q → Right (RowOf p) (gives_lent item q)
lent_right None p q s = option_right None p q s
lent_right (Some value) p q s =
    after_right (λ objects is.
    option_right (Some (lent value)) p (with_objects objects q) (same_with p q _ s refl refl refl refl (NoMore-copy (lent value) q.objects objects is)))

receives_right : (kind : ℕ) (values : List Value) (p : Process) (further : ObjectId → Object → List Value → Process → RowOutcome) → ((id : ObjectId) (found : Object) (operands : List Value) (q : Process) → Same p q → Right (RowOf p) (further id found operands q)) → Right (RowOf p) (receives kind values p further)
receives_right kind [] p further h = wrong (RowOf p) wrong.Absent
receives_right kind (receiver ∷ operands) p further h =
    after_right (λ id borrowed. after_right (λ found there. needs_right _ _ (after_right (λ objects is.
    h id found operands (with_objects objects p) (same_with p p _ (same_itself p) refl refl refl refl (NoMore-borrow id p.objects objects is))))))

-- with an array or an item in another's place
items_same : (id : ObjectId) (items : List Value) (p q : Process) → Same p q → Same p (with_items id items q)
items_same id items p q s = same_with p q _ s refl refl refl refl (NoMore-changed q.objects id (with_fields items))

item_same : (id : ObjectId) (place : ℕ) (value : Value) (p q : Process) → Same p q → Same p (with_item id place value q)
item_same id place value p q s = same_with p q _ s refl refl refl refl (NoMore-changed q.objects id (with_field place value))

found_right : (item : Option Value) (place : ℕ) (p : Process) (further : ℕ → Value → RowOutcome) → ((place : ℕ) (old : Value) → Right (RowOf p) (further place old)) → Right (RowOf p) (found_item item place further)
found_right None place p further h = wrong (RowOf p) wrong.Absent
found_right (Some value) place p further h = h place value

at_right : (index : ℤ) (items : List Value) (p q : Process) (place : Option ℕ) (further : ℕ → Value → RowOutcome) → Same p q → ((place : ℕ) (old : Value) → Right (RowOf p) (further place old)) → Right (RowOf p) (at_item index items q place further)
at_right index items p q None further s h = fails_right _ p q s
at_right index items p q (Some place) further s h = found_right (slice_get items place) place p further h

-- the rows of Array

size_right : (values : List Value) (p : Process) → Right (RowOf p) (size_row values p)
unfolding size_row
size_right values p = receives_right _ values p _ (λ id found operands q s. no_operand_right operands p _ (gives_right _ p q s))

empty_right : (values : List Value) (p : Process) → Right (RowOf p) (empty_row values p)
unfolding empty_row
empty_right values p = receives_right _ values p _ (λ id found operands q s. no_operand_right operands p _ (gives_right _ p q s))

push_right : (limits : List ℕ) (values : List Value) (p : Process) → Right (RowOf p) (push_row limits values p)
unfolding push_row
push_right limits values p = receives_right _ values p _ (λ id found operands q s. after_right (λ value one.
    unless_right _ p q s (when_right _ (fails_right _ p q s) (gives_right v.Nil p _ (items_same id _ p q s)))))

pop_right : (limits : List ℕ) (values : List Value) (p : Process) → Right (RowOf p) (pop_row limits values p)
unfolding pop_row
pop_right limits values p = receives_right _ values p _ (λ id found operands q s. no_operand_right operands p _
    (unless_right _ p q s (option_right _ p _ (items_same id _ p q s))))

get_right : (limits : List ℕ) (values : List Value) (p : Process) → Right (RowOf p) (get_row limits values p)
unfolding get_row
get_right limits values p = receives_right _ values p _ (λ id found operands q s. after_right (λ value one. after_right (λ index is.
    unless_right _ p q s (lent_right _ p q s))))

set_right : (values : List Value) (p : Process) → Right (RowOf p) (set_row values p)
unfolding set_row
set_right values p = receives_right _ values p _ (λ id found operands q s. after_right (λ both two. after_right (λ index is.
    at_right index found.fields p q _ _ s (λ place old. when_right _ (fails_right _ p q s)
    (gives_right v.Nil p _ (same_with p _ _ (item_same id place both.1 p q s) refl refl refl refl (NoMore-same _)))))))

swap_right : (values : List Value) (p : Process) → Right (RowOf p) (swap_row values p)
unfolding swap_row
swap_right values p = receives_right _ values p _ (λ id found operands q s. after_right (λ both two. after_right (λ index is.
    at_right index found.fields p q _ _ s (λ place old. when_right _ (fails_right _ p q s)
    (gives_right old p _ (item_same id place both.1 p q s))))))

clear_right : (values : List Value) (p : Process) → Right (RowOf p) (clear_row values p)
unfolding clear_row
clear_right values p = receives_right _ values p _ (λ id found operands q s. no_operand_right operands p _
    (gives_right v.Nil p _ (same_with p _ _ (items_same id [] p q s) refl refl refl refl (NoMore-same _))))

array_right : (limits : List ℕ) (row : ℕ) (values : List Value) (p : Process) → Right (RowOf p) (array_rows limits row values p)
unfolding array_rows
array_right limits row values p =
    if_else (row == rows.array_size) (size_right values p)
    (if_else (row == rows.array_is_empty) (empty_right values p)
    (if_else (row == rows.array_push) (push_right limits values p)
    (if_else (row == rows.array_pop) (pop_right limits values p)
    (if_else (row == rows.array_get) (get_right limits values p)
    (if_else (row == rows.array_get_mut) (get_right limits values p)
    (if_else (row == rows.array_set) (set_right values p)
    (if_else (row == rows.array_swap) (swap_right values p)
    (if_else (row == rows.array_clear) (clear_right values p) (wrong (RowOf p) wrong.Absent)))))))))

-- the rows of Option, and that of Stdout

some_right : (values : List Value) (p : Process) → Right (RowOf p) (some_row values p)
unfolding some_row
some_right values p = receives_right _ values p _ (λ id found operands q s. no_operand_right operands p _ (gives_right _ p q s))

none_right : (values : List Value) (p : Process) → Right (RowOf p) (none_row values p)
unfolding none_row
none_right values p = receives_right _ values p _ (λ id found operands q s. no_operand_right operands p _ (gives_right _ p q s))

value_right : (code : Code) (values : List Value) (p : Process) → Right (RowOf p) (value_row code values p)
unfolding value_row
value_right code values p = after_right (λ value one. after_right (λ id owned. after_right (λ found there.
    needs_right _ _ (when_right _ (given_right _ (λ name is. fails_right _ p p (same_itself p)))
    (when_right _ (fails_right _ p p (same_itself p))
    (given_right _ (λ item is. gives_right item p _ (same_with p p _ (same_itself p) refl refl refl refl (NoMore-remove p.objects id)))))))))

lends_right : (held : Bool) (item : Option Value) (p q : Process) → Same p q → Right (RowOf p) (lends_value held item q)
lends_right true item p q s = given_right _ (λ value is. lent_right (Some value) p q s)
lends_right false item p q s = lent_right None p q s

as_ref_right : (limits : List ℕ) (values : List Value) (p : Process) → Right (RowOf p) (as_ref_row limits values p)
unfolding as_ref_row
as_ref_right limits values p = receives_right _ values p _ (λ id found operands q s. no_operand_right operands p _
    (unless_right _ p q s (lends_right (has_value found) (slice_get found.fields 0) p q s)))

stdout_right : (limits : List ℕ) (values : List Value) (p : Process) → Right (RowOf p) (stdout_row limits values p)
unfolding stdout_row
stdout_right limits values p = no_operand_right values p _
    (unless_right _ p p (same_itself p) (made_right stdout_kind 0 [] p p (same_itself p)))

option_rows_right : (code : Code) (limits : List ℕ) (row : ℕ) (values : List Value) (p : Process) → Right (RowOf p) (option_rows code limits row values p)
unfolding option_rows
option_rows_right code limits row values p =
    if_else (row == rows.option_is_some) (some_right values p)
    (if_else (row == rows.option_is_none) (none_right values p)
    (if_else (row == rows.option_get) (value_right code values p)
    (if_else (row == rows.option_as_ref) (as_ref_right limits values p)
    (if_else (row == rows.option_as_mut) (as_ref_right limits values p)
    (if_else (row == rows.stdout_new) (stdout_right limits values p) (wrong (RowOf p) wrong.Absent))))))

-- all rows

pub row_right : (code : Code) (limits : List ℕ) (row : ℕ) (values : List Value) (p : Process) → Right (RowOf p) (row_step code limits row values p)
unfolding row_step
row_right code limits row values p =
    if_else (nat_lt row rows.first_of_array) (after_right (λ computed is. right (RowOf p) (computed, p) (kept_same p p (same_itself p))))
    (if_else (nat_lt row rows.first_of_option) (array_right limits row values p) (option_rows_right code limits row values p))
