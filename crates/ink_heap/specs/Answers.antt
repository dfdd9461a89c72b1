-- What the answers of a heap say of the heap before and after the call.
use Rattle.std.specs.Prelude.{◌≡◌, ℕ, ◌+◌, ◌-◌, ◌<◌, ◌≤◌, Option, None, Some, Result, Ok, Err, List, length, IsSomeAnd}
use Rattle.std.specs.List.{slice_get}
use Rattle.std.specs.Option.{option_and_then}
use Rattle.std.specs.FinMap.{get, insert, remove, len}
use Rattle.ink_base.specs.declared.ident.ObjectId.{ObjectId}
use Rattle.ink_base.specs.declared.value.Value.{Value}
use Rattle.ink_base.specs.declared.object.Object.{Object}
use Rattle.ink_heap.specs.declared.fault.MakeFault.{MakeFault}
use Rattle.ink_heap.specs.declared.fault.MakeFault.TheVariants as make
use Rattle.ink_heap.specs.declared.fault.PushFault.{PushFault}
use Rattle.ink_heap.specs.declared.fault.PushFault.TheVariants as push
use Rattle.ink_heap.specs.declared.fault.FreeFault.{FreeFault}
use Rattle.ink_heap.specs.declared.fault.FreeFault.TheVariants as free
use Rattle.ink_base.specs.Objects.{changed_object, with_field, with_more, without_last}
use Rattle.ink_heap.specs.View.{HeapView}

-- a new object; none where as many as `most` live, or where there is neither room nor memory
abbrev pub IsMakeAnswer : Result (Unit {0}) MakeFault → HeapView → HeapView → ObjectId → Object → ℕ → Type 0
IsMakeAnswer (Ok _) old new id object most =
    (len old.objects < most) × (new.objects ≡ insert old.objects id object) × (old.spare ≤ new.spare + 1)
IsMakeAnswer (Err (make.Full fields)) old new id object most =
    (most ≤ len old.objects) × (fields ≡ object.fields) × (new ≡ old)
IsMakeAnswer (Err (make.OutOfMemory fields)) old new id object most =
    (len old.objects < most) × (old.spare ≡ 0) × (fields ≡ object.fields) × (new ≡ old)

-- the value that stood in a field; the new one back where there is no such object or field
abbrev pub IsWriteAnswer : Result Value Value → HeapView → HeapView → ObjectId → ℕ → Value → Type 0
IsWriteAnswer (Ok had) old new id index value =
    (option_and_then (λ object. slice_get object.fields index) (get old.objects id) ≡ Some had)
    × (new ≡ record old { objects = changed_object old.objects id (with_field index value) })
IsWriteAnswer (Err back) old new id index value =
    (option_and_then (λ object. slice_get object.fields index) (get old.objects id) ≡ None) × (back ≡ value) × (new ≡ old)

-- one field more; the value back where there is no such object, where it has as many as `most`, or without memory
abbrev pub IsPushAnswer : Result (Unit {0}) PushFault → HeapView → HeapView → ObjectId → Value → ℕ → Type 0
IsPushAnswer (Ok _) old new id value most =
    IsSomeAnd (get old.objects id) (λ object. length object.fields < most)
    × (new ≡ record old { objects = changed_object old.objects id (with_more value) })
IsPushAnswer (Err (push.Absent back)) old new id value most =
    (get old.objects id ≡ None) × (back ≡ value) × (new ≡ old)
IsPushAnswer (Err (push.Full back)) old new id value most =
    IsSomeAnd (get old.objects id) (λ object. most ≤ length object.fields) × (back ≡ value) × (new ≡ old)
IsPushAnswer (Err (push.OutOfMemory back)) old new id value most =
    IsSomeAnd (get old.objects id) (λ object. length object.fields < most) × (back ≡ value) × (new ≡ old)

abbrev pub last_field : Object → Option Value
last_field object = slice_get object.fields (length object.fields - 1)

-- the value of the last field, which goes; none where there is no such object or it has no field
abbrev pub IsPopAnswer : Option Value → HeapView → HeapView → ObjectId → Type 0
IsPopAnswer None old new id = (option_and_then last_field (get old.objects id) ≡ None) × (new ≡ old)
IsPopAnswer (Some had) old new id =
    (option_and_then last_field (get old.objects id) ≡ Some had)
    × (new ≡ record old { objects = changed_object old.objects id without_last })

-- the fields of an object without borrows, which goes; the heap stays where it has some, or where it isn't there
abbrev pub IsFreeAnswer : Result (List Value) FreeFault → HeapView → HeapView → ObjectId → Option Object → Type 0
IsFreeAnswer (Ok fields) old new id (Some object) =
    (object.count ≡ 0) × (fields ≡ object.fields) × (new.objects ≡ remove old.objects id) × (old.spare < new.spare)
IsFreeAnswer (Ok fields) old new id None = ⊥
IsFreeAnswer (Err free.Absent) old new id found = (found ≡ None) × (new ≡ old)
IsFreeAnswer (Err (free.Borrowed count)) old new id (Some object) = (0 < count) × (object.count ≡ count) × (new ≡ old)
IsFreeAnswer (Err (free.Borrowed count)) old new id None = ⊥
