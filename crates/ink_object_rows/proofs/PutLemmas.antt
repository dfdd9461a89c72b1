-- Items that are put in an array, and values that are moved out of the operands and back.
use Rattle.std.proofs.Common.{◌≡◌, ℕ, true, Some, Result, Ok, Err, List, [], ◌∷◌, ◌++◌, length, set, sym, ap, ◌∙◌}
use Rattle.std.specs.List.{slice_get}
use Rattle.std.specs.FinMap.{get}
use Rattle.std.proofs.lemmas.List.{set-set, set-get_or}
use Rattle.std.proofs.lemmas.Option.{get_or_from_slice_get}
use Rattle.ink_base.specs.declared.ident.ObjectId.{ObjectId}
use Rattle.ink_base.specs.declared.limits.Limit.TheVariants as limit
use Rattle.ink_base.specs.declared.object.Object.{Object}
use Rattle.ink_base.specs.declared.value.Value.{Value}
use Rattle.ink_base.specs.declared.value.Value.TheVariants as v
use Rattle.ink_base.specs.Actions.{reached}
use Rattle.ink_base.specs.Objects.{Objects, changed_object, counted_down, is_counted, with_field, with_more}
use Rattle.ink_base.specs.Panics.{cycle_text}
use Rattle.ink_code.specs.declared.wrong.Wrong.{Wrong}
use Rattle.ink_code.specs.ArrayRows.{push_row, with_items}
use Rattle.ink_code.specs.Machine.{after, when, with_objects}
use Rattle.ink_code.specs.Kinds.{array_kind}
use Rattle.ink_code.specs.Objects.{with_fields}
use Rattle.ink_code.specs.Process.{Process}
use Rattle.ink_code.specs.Rows.{gives, fails, single, unless_fails}
use Rattle.ink_code.specs.Trees.{is_under}
use Rattle.ink_object_rows.specs.Receiver.{received}
use Rattle.ink_object_rows.proofs.ReceiverLemmas.{receives-received}
use Rattle.ink_object_rows.proofs.CycleLemmas.{is_under-counted}
use Rattle.ink_object_rows.proofs.ChangeLemmas.{changed_twice, get_changed}
use Rattle.ink_object_rows.proofs.TargetLemmas.{set_row-tested, swap_row-tested}

-- what stands in a place is put there again
pub set_back : {X : Type 0} (xs : List X) (place : ℕ) (between x : X) → slice_get xs place ≡ Some x → set (set xs place between) place x ≡ xs
set_back xs place between x had =
    set-set xs place between x ∙ ap (set xs place) (sym (get_or_from_slice_get xs place x x had)) ∙ set-get_or xs place x

-- a change of another part of an object that is there
pub still_counted : (objects : Objects) (id : ObjectId) (found : Object) (f : Object → Object) → get objects id ≡ Some found → (f found).count ≡ found.count → is_counted (get objects id) ≡ true → is_counted (get (changed_object objects id f) id) ≡ true
still_counted objects id found f has same counted =
    ap is_counted (get_changed objects id found f has) ∙ ap (λ count. is_counted (Some (record found { count = count }))) same ∙ ap is_counted (sym has) ∙ counted

-- a count and a field are changed in either order
pub counted-with_field : (objects : Objects) (id : ObjectId) (found : Object) (place : ℕ) (value : Value) → get objects id ≡ Some found → changed_object (changed_object objects id (with_field place value)) id counted_down ≡ changed_object (changed_object objects id counted_down) id (with_field place value)
counted-with_field objects id found place value has =
    changed_twice objects id found (with_field place value) counted_down has ∙ sym (changed_twice objects id found counted_down (with_field place value) has)

pub counted-with_more : (objects : Objects) (id : ObjectId) (found : Object) (value : Value) → get objects id ≡ Some found → changed_object (changed_object objects id (with_more value)) id counted_down ≡ changed_object (changed_object objects id counted_down) id (with_fields (found.fields ++ value ∷ []))
counted-with_more objects id found value has =
    changed_twice objects id found (with_more value) counted_down has ∙ sym (changed_twice objects id found counted_down (with_fields (found.fields ++ value ∷ [])) has)

value_or : Result Value Wrong → Value → Value
value_or (Ok value) other = value
value_or (Err why) other = other

pub single_is : (operands : List Value) (value : Value) → single operands ≡ Ok value → operands ≡ value ∷ []
unfolding value_or
single_is [] value is = cc
single_is (a ∷ []) value is = ap (λ answer. value_or answer a ∷ []) is
single_is (a ∷ b ∷ others) value is = cc

pub push_row-received : (limits : List ℕ) (values : List Value) (p : Process) → push_row limits values p ≡ after (received array_kind values p.objects) (λ one. after (single one.operands) (λ value. unless_fails (reached limit.Array (length one.found.fields) limits) (with_objects one.left p) (when (is_under one.id value one.left) (fails cycle_text (with_objects one.left p)) (gives v.Nil (with_items one.id (one.found.fields ++ value ∷ []) (with_objects one.left p))))))
unfolding push_row
push_row-received limits values p = receives-received array_kind values p _

pub ruleset pushes = (push_row-received, is_under-counted, single_is)

pub ruleset puts = (set_row-tested, swap_row-tested)
