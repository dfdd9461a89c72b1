-- What the rows that put an item in an array make of it, once all their tests are made.
use Rattle.std.proofs.Common.{◌≡◌, ◌<◌, ℕ, true, false, Option, None, Some, Ok, List, [], ◌∷◌, ◌++◌, length, get_or, set, refl, sym, ap, ◌∙◌, subst, rules, arith}
use Rattle.std.specs.Prelude.{IsSome}
use Rattle.std.specs.List.{slice_get}
use Rattle.std.specs.Option.{option_map, option_and_then, unwrap_or}
use Rattle.std.specs.FinMap.{get, insert}
use Rattle.std.proofs.lemmas.List.{get_or-set_same, length-set}
use Rattle.std.proofs.lemmas.Option.{slice_get_within, slice_get-get_or}
use Rattle.ink_base.specs.declared.ident.ObjectId.{ObjectId}
use Rattle.ink_base.specs.declared.limits.Limit.TheVariants as limit
use Rattle.ink_base.specs.declared.object.Object.{Object}
use Rattle.ink_base.specs.declared.value.Value.{Value}
use Rattle.ink_base.specs.declared.value.Value.TheVariants as v
use Rattle.ink_base.specs.Actions.{reached}
use Rattle.ink_base.specs.Objects.{Objects, changed_object, counted_down, with_field, with_more}
use Rattle.ink_base.specs.Panics.{cycle_text}
use Rattle.ink_code.specs.ArrayRows.{push_row, set_row, swap_row, with_items}
use Rattle.ink_code.specs.Machine.{after, when, with_objects}
use Rattle.ink_code.specs.Process.{Process}
use Rattle.ink_code.specs.Rows.{RowOutcome, Gives, gives, fails, single, unless_fails}
use Rattle.ink_code.specs.Trees.{is_under}
use Rattle.ink_heap.proofs.ObjectsLemmas.{changed_object-same}
use Rattle.ink_object_rows.specs.Answers.{raised}
use Rattle.ink_object_rows.specs.Given.{IsItemGiven}
use Rattle.ink_object_rows.specs.Target.{HasSpot, on_tested}
use Rattle.ink_object_rows.proofs.CycleLemmas.{is_under-counted}
use Rattle.ink_object_rows.proofs.ChangeLemmas.{changed_there, changed_twice, get_changed}
use Rattle.ink_object_rows.proofs.PutLemmas.{set_back, counted-with_field, counted-with_more, single_is, push_row-received}
use Rattle.ink_object_rows.proofs.TargetLemmas.{setting, swapping, set_row-tested, swap_row-tested}

-- what a field of the object of that name holds
abbrev pub field : Objects → ObjectId → ℕ → Option Value
field objects id place = option_and_then (λ object. slice_get object.fields place) (get objects id)

old_is : (values : List Value) (objects : Objects) (id : ObjectId) (place : ℕ) (old : Value) (s : HasSpot values objects id place) → field objects id place ≡ Some old → s.old ≡ old
old_is values objects id place old s had =
    ap (λ item. unwrap_or item s.old) (sym s.had ∙ sym (ap (option_and_then (λ object. slice_get object.fields place)) s.there) ∙ had)

-- the objects after an item was put in and the receiver's borrow ended
objects_are : (values : List Value) (objects : Objects) (id : ObjectId) (place : ℕ) (item : Value) (mid new : Objects) (s : HasSpot values objects id place) → item ≡ s.value → mid ≡ changed_object objects id (with_field place item) → new ≡ changed_object mid id counted_down → changed_object (changed_object objects id counted_down) id (with_field place s.value) ≡ new
objects_are values objects id place item mid new s item_is mid_is new_is =
    ap (λ value. changed_object (changed_object objects id counted_down) id (with_field place value)) (sym item_is)
    ∙ sym (new_is ∙ ap (λ o. changed_object o id counted_down) mid_is ∙ counted-with_field objects id s.found place item s.there)

pub swap_done : (values : List Value) (p : Process) (id : ObjectId) (place : ℕ) (item old : Value) (mid new : Objects) (s : HasSpot values p.objects id place) → item ≡ s.value → field p.objects id place ≡ Some old → mid ≡ changed_object p.objects id (with_field place item) → new ≡ changed_object mid id counted_down → swap_row values p ≡ Ok (Gives old, with_objects new p)
unfolding after
swap_done values p id place item old mid new s item_is had mid_is new_is =
    swap_row-tested values p
    ∙ ap (λ answer. after answer (on_tested swapping p)) s.stands
    ∙ ap (λ objects. gives s.old (with_objects objects p)) (objects_are values p.objects id place item mid new s item_is mid_is new_is)
    ∙ ap (λ value. gives value (with_objects new p)) (old_is values p.objects id place old s had)

pub set_done : (values : List Value) (p : Process) (id : ObjectId) (place : ℕ) (item old : Value) (mid new : Objects) (waits : List Value) (s : HasSpot values p.objects id place) → item ≡ s.value → field p.objects id place ≡ Some old → mid ≡ changed_object p.objects id (with_field place item) → new ≡ changed_object mid id counted_down → waits ≡ old ∷ p.pending → set_row values p ≡ Ok (Gives v.Nil, record p { objects = new; pending = waits })
unfolding after
set_done values p id place item old mid new waits s item_is had mid_is new_is waits_is =
    set_row-tested values p
    ∙ ap (λ answer. after answer (on_tested setting p)) s.stands
    ∙ ap (λ objects. gives v.Nil (record p { objects = objects; pending = s.old ∷ p.pending })) (objects_are values p.objects id place item mid new s item_is mid_is new_is)
    ∙ ap (λ pending. gives v.Nil (record p { objects = new; pending = pending })) (ap (λ value. value ∷ p.pending) (old_is values p.objects id place old s had) ∙ sym waits_is)

-- the item stands in its place
pub field_written : (values : List Value) (objects : Objects) (id : ObjectId) (place : ℕ) (item : Value) (mid : Objects) → HasSpot values objects id place → mid ≡ changed_object objects id (with_field place item) → field mid id place ≡ Some item
field_written values objects id place item mid s mid_is =
    let low : place < length s.found.fields = slice_get_within s.found.fields place s.old s.had in
    ap (λ o. field o id place) mid_is
    ∙ ap (option_and_then (λ object. slice_get object.fields place)) (get_changed objects id s.found (with_field place item) s.there)
    ∙ slice_get-get_or (set s.found.fields place item) place item (omega (arith, length-set s.found.fields place item))
    ∙ ap Some (get_or-set_same s.found.fields place item item low)

pub field_is_written : (values : List Value) (objects : Objects) (id : ObjectId) (place : ℕ) (item : Value) (mid : Objects) → HasSpot values objects id place → mid ≡ changed_object objects id (with_field place item) → IsSome (field mid id place)
field_is_written values objects id place item mid s mid_is =
    let there : IsSome (Some item) = search rules in
    subst IsSome (sym (field_written values objects id place item mid s mid_is)) there

-- the old item is put back
pub objects_back : (values : List Value) (objects : Objects) (id : ObjectId) (place : ℕ) (item old back : Value) (mid new : Objects) → HasSpot values objects id place → field objects id place ≡ Some old → mid ≡ changed_object objects id (with_field place item) → back ≡ old → new ≡ changed_object mid id (with_field place back) → new ≡ objects
objects_back values objects id place item old back mid new s had mid_is back_is new_is =
    let same : back ≡ s.old = back_is ∙ sym (old_is values objects id place old s had) in
    new_is
    ∙ ap (λ o. changed_object o id (with_field place back)) mid_is
    ∙ ap (λ value. changed_object (changed_object objects id (with_field place item)) id (with_field place value)) same
    ∙ changed_twice objects id s.found (with_field place item) (with_field place s.old) s.there
    ∙ ap (λ fields. insert objects id (record s.found { fields = fields })) (set_back s.found.fields place item s.old s.had)
    ∙ sym (changed_there objects id s.found (λ object. object) s.there)
    ∙ changed_object-same objects id s.found (λ object. object) s.there refl

pub values_back : (values : List Value) (objects : Objects) (id : ObjectId) (place : ℕ) (item between result : Value) (mid : Objects) (s : HasSpot values objects id place) → item ≡ s.value → mid ≡ changed_object objects id (with_field place item) → field mid id place ≡ Some result → set (set values 2 between) 2 result ≡ values
values_back values objects id place item between result mid s item_is mid_is had =
    let same : result ≡ s.value = ap (λ found. unwrap_or found result) (sym had ∙ field_written values objects id place item mid s mid_is) ∙ item_is in
    set_back values 2 between result (s.last ∙ ap Some (sym same))

-- a process with the same objects and the same drops
pub same_state : (p : Process) (objects : Objects) (pending : List Value) → objects ≡ p.objects → pending ≡ p.pending → record p { objects = objects; pending = pending } ≡ p
same_state p objects pending one other =
    ap (λ o. record p { objects = o; pending = pending }) one ∙ ap (λ waits. record p { pending = waits }) other

abbrev pushed_to : Object → Objects → ObjectId → Value → Process → RowOutcome
pushed_to found left id value p = when (is_under id value left) (fails cycle_text (with_objects left p)) (gives v.Nil (with_items id (found.fields ++ value ∷ []) (with_objects left p)))

begun : (limits : List ℕ) (values : List Value) (p : Process) (id : ObjectId) (value : Value) (size : ℕ) (b : IsItemGiven values p.objects id value size) → push_row limits values p ≡ unless_fails (reached limit.Array size limits) (with_objects (changed_object p.objects id counted_down) p) (pushed_to b.all.found (changed_object p.objects id counted_down) id value p)
unfolding after
begun limits values p id value size b =
    let left : Objects = changed_object p.objects id counted_down in
    let sized : length b.all.found.fields ≡ size = ap (λ had. unwrap_or had 0) (sym (ap (option_map (λ object. length object.fields)) b.all.there) ∙ b.sized) in
    push_row-received limits values p
    ∙ ap (λ answer. after answer (λ one. after (single one.operands) (λ value. unless_fails (reached limit.Array (length one.found.fields) limits) (with_objects one.left p) (pushed_to one.found one.left one.id value p)))) b.all.stands
    ∙ ap (λ answer. after answer (λ value. unless_fails (reached limit.Array (length b.all.found.fields) limits) (with_objects left p) (pushed_to b.all.found left id value p))) b.lone
    ∙ ap (λ count. unless_fails (reached limit.Array count limits) (with_objects left p) (pushed_to b.all.found left id value p)) sized

pub push_full : (limits : List ℕ) (values : List Value) (p : Process) (id : ObjectId) (value : Value) (size : ℕ) (text : List ℕ) → IsItemGiven values p.objects id value size → reached limit.Array size limits ≡ Some text → raised (push_row limits values p) ≡ Some text
unfolding unless_fails
push_full limits values p id value size text b is =
    ap raised (begun limits values p id value size b ∙ ap (λ text. unless_fails text (with_objects (changed_object p.objects id counted_down) p) (pushed_to b.all.found (changed_object p.objects id counted_down) id value p)) is)

tested : (limits : List ℕ) (values : List Value) (p : Process) (id : ObjectId) (value : Value) (size : ℕ) (b : IsItemGiven values p.objects id value size) → reached limit.Array size limits ≡ None → push_row limits values p ≡ when (is_under id value p.objects) (fails cycle_text (with_objects (changed_object p.objects id counted_down) p)) (gives v.Nil (with_items id (b.all.found.fields ++ value ∷ []) (with_objects (changed_object p.objects id counted_down) p)))
unfolding unless_fails
tested limits values p id value size b free =
    let left : Objects = changed_object p.objects id counted_down in
    begun limits values p id value size b
    ∙ ap (λ text. unless_fails text (with_objects left p) (pushed_to b.all.found left id value p)) free
    ∙ ap (λ test. when test (fails cycle_text (with_objects left p)) (gives v.Nil (with_items id (b.all.found.fields ++ value ∷ []) (with_objects left p)))) (is_under-counted id value p.objects id)

pub push_cycle : (limits : List ℕ) (values : List Value) (p : Process) (id : ObjectId) (value : Value) (size : ℕ) (text : List ℕ) → IsItemGiven values p.objects id value size → reached limit.Array size limits ≡ None → is_under id value p.objects ≡ true → text ≡ cycle_text → raised (push_row limits values p) ≡ Some text
unfolding when
push_cycle limits values p id value size text b free cycle is =
    let left : Objects = changed_object p.objects id counted_down in
    ap raised (tested limits values p id value size b free ∙ ap (λ test. when test (fails cycle_text (with_objects left p)) (gives v.Nil (with_items id (b.all.found.fields ++ value ∷ []) (with_objects left p)))) cycle)
    ∙ ap Some (sym is)

-- the item that is moved out of the operands
pub item_is : (values : List Value) (objects : Objects) (id : ObjectId) (value other : Value) (size : ℕ) → IsItemGiven values objects id value size → get_or values 1 other ≡ value
item_is values objects id value other size b =
    ap (λ all. get_or all 1 other) (b.all.behind ∙ ap (λ rest. v.Bor id ∷ rest) (single_is b.operands value b.lone))

pub push_done : (limits : List ℕ) (values : List Value) (p : Process) (id : ObjectId) (value item : Value) (size : ℕ) (mid new : Objects) → IsItemGiven values p.objects id value size → reached limit.Array size limits ≡ None → is_under id value p.objects ≡ false → item ≡ value → mid ≡ changed_object p.objects id (with_more item) → new ≡ changed_object mid id counted_down → push_row limits values p ≡ Ok (Gives v.Nil, with_objects new p)
unfolding when
push_done limits values p id value item size mid new b free under item_is mid_is new_is =
    let left : Objects = changed_object p.objects id counted_down in
    tested limits values p id value size b free
    ∙ ap (λ test. when test (fails cycle_text (with_objects left p)) (gives v.Nil (with_items id (b.all.found.fields ++ value ∷ []) (with_objects left p)))) under
    ∙ ap (λ one. gives v.Nil (with_items id (b.all.found.fields ++ one ∷ []) (with_objects left p))) (sym item_is)
    ∙ ap (λ objects. gives v.Nil (with_objects objects p)) (sym (new_is ∙ ap (λ o. changed_object o id counted_down) mid_is ∙ counted-with_more p.objects id b.all.found item b.all.there))
