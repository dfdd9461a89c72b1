-- An object that is there, after one change and after two.
use Rattle.std.proofs.Common.{◌≡◌, inl, inr, ◌-◌, ◌≤◌, true, cond, Option, None, Some, List, [], length, refl, sym, ap, ◌∙◌}
use Rattle.std.specs.List.{slice_get}
use Rattle.std.specs.Option.{option_map, option_and_then, option_map_or}
use Rattle.std.specs.FinMap.{get, insert, remove}
use Rattle.std.proofs.lemmas.List.{take_all}
use Rattle.std.proofs.lemmas.Option.{slice_get_cases}
use Rattle.ink_base.specs.declared.ident.ObjectId.{ObjectId}
use Rattle.ink_base.specs.declared.object.Object.{Object}
use Rattle.ink_base.specs.declared.value.Value.{Value}
use Rattle.ink_base.specs.Objects.{Objects, changed_object, change_found, counted_down, without_last, is_counted, fields_in}
use Rattle.ink_code.specs.Objects.{with_fields}
use Rattle.ink_heap.proofs.ObjectsLemmas.{get-changed_object, changed_object-insert, changed_object-same, changed_object-alike, is_same-itself}
use Rattle.ink_heap.specs.Answers.{IsPopAnswer, last_field}
use Rattle.ink_heap.specs.View.{HeapView}
use Rattle.ink_proc.proofs.PuttingLemmas.{insert-removed}
use Rattle.ink_object_rows.specs.Items.{last_item, other_items, after_row}

pub changed_there : (objects : Objects) (id : ObjectId) (found : Object) (f : Object → Object) → get objects id ≡ Some found → changed_object objects id f ≡ insert objects id (f found)
unfolding changed_object
changed_there objects id found f has = ap (λ had. change_found had objects id f) has

pub changed_twice : (objects : Objects) (id : ObjectId) (found : Object) (f g : Object → Object) → get objects id ≡ Some found → changed_object (changed_object objects id f) id g ≡ insert objects id (g (f found))
changed_twice objects id found f g has =
    ap (λ changed. changed_object changed id g) (changed_there objects id found f has) ∙ changed_object-insert objects id (f found) g

pub get_changed : (objects : Objects) (id : ObjectId) (found : Object) (f : Object → Object) → get objects id ≡ Some found → get (changed_object objects id f) id ≡ Some (f found)
get_changed objects id found f has =
    get-changed_object objects id f id
    ∙ ap (λ test. cond test (option_map f (get objects id)) (get objects id)) (is_same-itself id)
    ∙ ap (option_map f) has

-- an object that was taken out is put in again
pub insert_back : (objects : Objects) (id : ObjectId) (found : Object) → get objects id ≡ Some found → insert (remove objects id) id found ≡ objects
insert_back objects id found has =
    insert-removed objects id found
    ∙ sym (changed_there objects id found (λ object. object) has)
    ∙ changed_object-same objects id found (λ object. object) has refl

-- an array that was taken out is put in again with other items, and with one borrow less
pub insert_after : (objects : Objects) (id : ObjectId) (found : Object) (items : List Value) → get objects id ≡ Some found → insert (remove objects id) id (record found { fields = items; count = found.count - 1 }) ≡ after_row objects id items
unfolding after_row
insert_after objects id found items has =
    insert-removed objects id _ ∙ sym (changed_twice objects id found counted_down (with_fields items) has)

pub ruleset taken = (insert_back, insert_after)

short : (items : List Value) → slice_get items (length items - 1) ≡ None → length items ≤ length items - 1
short items none =
    elim (slice_get_cases items (length items - 1)).1 [ inl there ↦ let is : slice_get items (length items - 1) ≡ Some there.0 = there.2 in cc | inr past ↦ past.0 ]

-- the last item of an array that is there is taken off
popped_there : (result : Option Value) (objects : Objects) (id : ObjectId) (found : Object) (mid new : HeapView) → get objects id ≡ Some found → mid.objects ≡ changed_object objects id counted_down → IsPopAnswer result mid new id → (result ≡ last_item found.fields) × (new.objects ≡ after_row objects id (other_items found.fields))
unfolding after_row
popped_there None objects id found mid new has is pops =
    let there : get mid.objects id ≡ Some (counted_down found) = ap (λ o. get o id) is ∙ get_changed objects id found counted_down has in
    let none : slice_get found.fields (length found.fields - 1) ≡ None = sym (ap (option_and_then last_field) there) ∙ pops.0 in
    let all : other_items found.fields ≡ found.fields = take_all (length found.fields - 1) found.fields (short found.fields none) in (
      sym none,
      ap (λ view. view.objects) pops.1 ∙ is
          ∙ sym (changed_object-same (changed_object objects id counted_down) id (counted_down found) (with_fields (other_items found.fields)) (get_changed objects id found counted_down has) (ap (λ items. with_fields items (counted_down found)) all)),
    )
popped_there (Some had) objects id found mid new has is pops =
    let there : get mid.objects id ≡ Some (counted_down found) = ap (λ o. get o id) is ∙ get_changed objects id found counted_down has in
    let some : slice_get found.fields (length found.fields - 1) ≡ Some had = sym (ap (option_and_then last_field) there) ∙ pops.0 in (
      sym some,
      ap (λ view. view.objects) pops.1
          ∙ ap (λ o. changed_object o id without_last) is
          ∙ changed_object-alike (changed_object objects id counted_down) id (counted_down found) without_last (with_fields (other_items found.fields)) (get_changed objects id found counted_down has) refl,
    )

-- a heap of which the last item of an array was taken off has as much room as before
pub popped_room : (result : Option Value) (mid new : HeapView) (id : ObjectId) → IsPopAnswer result mid new id → new.spare ≡ mid.spare
popped_room None mid new id pops = ap (λ view. view.spare) pops.1
popped_room (Some had) mid new id pops = ap (λ view. view.spare) pops.1

from_found : (had : Option Object) (result : Option Value) (objects : Objects) (id : ObjectId) (mid new : HeapView) → get objects id ≡ had → is_counted had ≡ true → mid.objects ≡ changed_object objects id counted_down → IsPopAnswer result mid new id → (result ≡ last_item (fields_in objects id)) × (new.objects ≡ after_row objects id (other_items (fields_in objects id)))
from_found None result objects id mid new has counted is pops = cc
from_found (Some found) result objects id mid new has counted is pops =
    let fields : found.fields ≡ fields_in objects id = sym (ap (λ had. option_map_or (λ object. object.fields) had []) has) in
    let told : (result ≡ last_item found.fields) × (new.objects ≡ after_row objects id (other_items found.fields)) = popped_there result objects id found mid new has is pops in
    (told.0 ∙ ap last_item fields, told.1 ∙ ap (λ items. after_row objects id (other_items items)) fields)

pub popped_item : (result : Option Value) (objects : Objects) (id : ObjectId) (mid new : HeapView) → is_counted (get objects id) ≡ true → mid.objects ≡ changed_object objects id counted_down → IsPopAnswer result mid new id → (result ≡ last_item (fields_in objects id)) × (new.objects ≡ after_row objects id (other_items (fields_in objects id)))
popped_item result objects id mid new counted is pops = from_found (get objects id) result objects id mid new refl counted is pops
