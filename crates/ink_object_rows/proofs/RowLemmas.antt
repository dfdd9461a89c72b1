-- What each row comes to, once its receiver is found.
use Rattle.std.proofs.Common.{◌≡◌, ℕ, ℤ, pos, Bool, true, false, cond, Option, None, Some, Result, Ok, Err, List, [], ◌++◌, length, refl, ap, ◌∙◌}
use Rattle.std.specs.Prelude.{◌==◌, not, slice_get}
use Rattle.std.specs.Option.{option_map}
use Rattle.std.specs.FinMap.{len}
use Rattle.ink_base.specs.declared.value.Value.{Value}
use Rattle.ink_base.specs.declared.value.Value.TheVariants as v
use Rattle.ink_base.specs.Objects.{changed_object}
use Rattle.ink_code.specs.declared.wrong.Wrong.{Wrong}
use Rattle.ink_code.specs.declared.wrong.Wrong.TheVariants as wrong
use Rattle.ink_heap.proofs.ObjectsLemmas.{len-changed_object}
use Rattle.ink_code.specs.ArrayRows.{size_row, empty_row, pop_row, get_row, clear_row, item_at, with_items}
use Rattle.ink_code.specs.OptionRows.{some_row, none_row, stdout_row, as_ref_row, has_value, lends_value}
use Rattle.ink_code.specs.Full.{full_text}
use Rattle.ink_code.specs.Machine.{after, given, with_objects}
use Rattle.ink_code.specs.Kinds.{array_kind, option_kind, stdout_kind}
use Rattle.ink_code.specs.Objects.{lent, with_fields}
use Rattle.ink_code.specs.Process.{Process}
use Rattle.ink_code.specs.Rows.{RowOutcome, gives, no_operand, unless_fails, unless_row_full, gives_made, gives_lent, gives_option, place_in, single, int_of}
use Rattle.ink_object_rows.specs.Items.{last_item, other_items, lent_item}
use Rattle.ink_object_rows.specs.Making.{gives_copy, lent_value}
use Rattle.ink_object_rows.specs.Receiver.{Received, received, received_alone}
use Rattle.ink_object_rows.proofs.ReceiverLemmas.{receives-alone, receives-received}
use Rattle.ink_object_rows.proofs.ChangeLemmas.{insert_back, insert_after}

pub size_row-alone : (values : List Value) (p : Process) → size_row values p ≡ after (received_alone array_kind values p.objects) (λ one. gives (v.Int (pos (length one.found.fields))) (with_objects one.left p))
unfolding size_row
size_row-alone values p = receives-alone array_kind values p _

pub empty_row-alone : (values : List Value) (p : Process) → empty_row values p ≡ after (received_alone array_kind values p.objects) (λ one. gives (v.Bool (length one.found.fields == 0)) (with_objects one.left p))
unfolding empty_row
empty_row-alone values p = receives-alone array_kind values p _

pub some_row-alone : (values : List Value) (p : Process) → some_row values p ≡ after (received_alone option_kind values p.objects) (λ one. gives (v.Bool (has_value one.found)) (with_objects one.left p))
unfolding some_row
some_row-alone values p = receives-alone option_kind values p _

pub none_row-alone : (values : List Value) (p : Process) → none_row values p ≡ after (received_alone option_kind values p.objects) (λ one. gives (v.Bool (not (has_value one.found))) (with_objects one.left p))
unfolding none_row
none_row-alone values p = receives-alone option_kind values p _

pub ruleset reads = (size_row-alone, empty_row-alone, some_row-alone, none_row-alone)

pub stdout_row-full : (limits : List ℕ) (values : List Value) (p : Process) → stdout_row limits values p ≡ no_operand values (unless_fails (full_text limits (len p.objects) p.made) p (gives_made stdout_kind 0 [] p))
unfolding stdout_row
stdout_row-full limits values p = refl

after-alike : {A : Type 0} (answer : Result A Wrong) (one other : A → RowOutcome) → ((value : A) → one value ≡ other value) → after answer one ≡ after answer other
unfolding after
after-alike (Err why) one other same = refl
after-alike (Ok value) one other same = same value

gives_lent-copy : (item : Option Value) (p : Process) → gives_lent item p ≡ gives_copy (option_map lent item) p
unfolding gives_copy
gives_lent-copy None p = refl
gives_lent-copy (Some value) p = refl

lends_field : (item : Option Value) (p : Process) → given wrong.Absent item (λ value. gives_lent (Some value) p) ≡ after (given wrong.Absent item (λ value. Ok (Some (lent value)))) (λ copy. gives_copy copy p)
unfolding given after gives_copy
lends_field None p = refl
lends_field (Some value) p = refl

lends-copy : (held : Bool) (item : Option Value) (p : Process) → lends_value held item p ≡ after (cond held (given wrong.Absent item (λ value. Ok (Some (lent value)))) (Ok None)) (λ copy. gives_copy copy p)
unfolding after gives_copy
lends-copy true item p = lends_field item p
lends-copy false item p = refl

as_ref_step : (limits : List ℕ) (p : Process) (one : Received) → unless_row_full limits (with_objects one.left p) (lends_value (has_value one.found) (slice_get one.found.fields 0) (with_objects one.left p)) ≡ unless_fails (full_text limits (len one.left) p.made) (with_objects one.left p) (after (lent_value (Some one.found)) (λ copy. gives_copy copy (with_objects one.left p)))
unfolding lent_value
as_ref_step limits p one =
    ap (unless_fails (full_text limits (len one.left) p.made) (with_objects one.left p)) (lends-copy (has_value one.found) (slice_get one.found.fields 0) (with_objects one.left p))

pub as_ref_row-alone : (limits : List ℕ) (values : List Value) (p : Process) → as_ref_row limits values p ≡ after (received_alone option_kind values p.objects) (λ one. unless_fails (full_text limits (len one.left) p.made) (with_objects one.left p) (after (lent_value (Some one.found)) (λ copy. gives_copy copy (with_objects one.left p))))
unfolding as_ref_row
as_ref_row-alone limits values p =
    receives-alone option_kind values p (λ id found q. unless_row_full limits q (lends_value (has_value found) (slice_get found.fields 0) q))
    ∙ after-alike (received_alone option_kind values p.objects) _ _ (as_ref_step limits p)

pub ruleset makes = (stdout_row-full, as_ref_row-alone, len-changed_object)

pub pop_row-alone : (limits : List ℕ) (values : List Value) (p : Process) → pop_row limits values p ≡ after (received_alone array_kind values p.objects) (λ one. unless_fails (full_text limits (len one.left) p.made) (with_objects one.left p) (gives_option (last_item one.found.fields) (with_objects (changed_object one.left one.id (with_fields (other_items one.found.fields))) p)))
unfolding pop_row
pop_row-alone limits values p =
    receives-alone array_kind values p (λ id found q. unless_row_full limits q (gives_option (last_item found.fields) (with_items id (other_items found.fields) q)))

pub clear_row-alone : (values : List Value) (p : Process) → clear_row values p ≡ after (received_alone array_kind values p.objects) (λ one. gives v.Nil (record (with_items one.id [] (with_objects one.left p)) { pending = one.found.fields ++ p.pending }))
unfolding clear_row
clear_row-alone values p = receives-alone array_kind values p _

get_end : (limits : List ℕ) (p : Process) (one : Received) (index : ℤ) → unless_row_full limits (with_objects one.left p) (gives_lent (item_at one.found.fields (place_in index (length one.found.fields))) (with_objects one.left p)) ≡ unless_fails (full_text limits (len one.left) p.made) (with_objects one.left p) (gives_copy (lent_item index one.found.fields) (with_objects one.left p))
get_end limits p one index =
    ap (unless_fails (full_text limits (len one.left) p.made) (with_objects one.left p)) (gives_lent-copy (item_at one.found.fields (place_in index (length one.found.fields))) (with_objects one.left p))

pub get_row-received : (limits : List ℕ) (values : List Value) (p : Process) → get_row limits values p ≡ after (received array_kind values p.objects) (λ one. after (single one.operands) (λ value. after (int_of value) (λ index. unless_fails (full_text limits (len one.left) p.made) (with_objects one.left p) (gives_copy (lent_item index one.found.fields) (with_objects one.left p)))))
unfolding get_row
get_row-received limits values p =
    receives-received array_kind values p (λ id found operands q. after (single operands) (λ value. after (int_of value) (λ index. unless_row_full limits q (gives_lent (item_at found.fields (place_in index (length found.fields))) q))))
    ∙ after-alike (received array_kind values p.objects) _ _ (λ one. after-alike (single one.operands) _ _ (λ value. after-alike (int_of value) _ _ (λ index. get_end limits p one index)))

pub ruleset gets = (get_row-received, len-changed_object)

pub ruleset pops = (pop_row-alone, len-changed_object)

pub ruleset clears = (clear_row-alone, insert_back, insert_after)
