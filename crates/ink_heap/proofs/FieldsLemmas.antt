-- What a push or a pop of an object's fields tells of the heap.
use Rattle.std.proofs.Common.{◌≡◌, ◌-◌, Option, None, Some, List, [], ◌∷◌, ◌++◌, length, take, ap, sym, ◌∙◌, arith, length-append}
use Rattle.std.proofs.Math.Seq.{take-append_seam}
use Rattle.std.specs.List.{slice_get}
use Rattle.std.specs.Option.{MatchOption, option_and_then}
use Rattle.std.specs.FinMap.{get}
use Rattle.ink_base.specs.declared.ident.ObjectId.{ObjectId}
use Rattle.ink_base.specs.declared.value.Value.{Value}
use Rattle.ink_base.proofs.SliceLemmas.{slice_get-append_last}
use Rattle.ink_base.specs.declared.object.Object.{Object}
use Rattle.ink_heap.specs.Answers.{IsPopAnswer, last_field}
use Rattle.ink_base.specs.Objects.{changed_object, without_last}
use Rattle.ink_heap.specs.View.{HeapView}
use Rattle.ink_heap.proofs.ObjectsLemmas.{changed_object-alike, changed_object-same}

-- an object with these fields
abbrev pub with_fields : List Value → Object → Object
with_fields fields object = record object { fields = fields }

module _ (rest : List Value) (old new : HeapView) (id : ObjectId) (object : Object) (has : get old.objects id ≡ Some object) (after : new ≡ record old { objects = changed_object old.objects id (with_fields rest) }) where
  popped_none : object.fields ≡ [] → rest ≡ [] → IsPopAnswer None old new id
  popped_none empty left =
      let same : with_fields rest object ≡ object = ap (λ fields. with_fields fields object) (left ∙ sym empty) in
      let last : last_field object ≡ None = ap (λ fields. slice_get {X = Value} fields (length fields - 1)) empty in (
        ap (option_and_then last_field) has ∙ last,
        after
            ∙ ap (λ objects. record old { objects = objects }) (changed_object-same old.objects id object (with_fields rest) has same),
      )

  popped_some : (value : Value) → object.fields ≡ rest ++ value ∷ [] → IsPopAnswer (Some value) old new id
  popped_some value parts =
      let less : length object.fields - 1 ≡ length rest = rw (parts, length-append rest (value ∷ [])) (omega arith) in
      let last : last_field object ≡ Some value =
      ap (slice_get object.fields) less
      ∙ ap (λ fields. slice_get fields (length rest)) parts
      ∙ slice_get-append_last rest value in
      let front : take (length object.fields - 1) object.fields ≡ rest =
      ap (λ n. take n object.fields) less ∙ ap (take (length rest)) parts ∙ take-append_seam rest (value ∷ []) in
      let same : with_fields rest object ≡ without_last object = ap (λ fields. with_fields fields object) (sym front) in (
        ap (option_and_then last_field) has ∙ last,
        after
            ∙ ap (λ objects. record old { objects = objects }) (changed_object-alike old.objects id object (with_fields rest) without_last has same),
      )

  pub IsPopAnswer-fields : (result : Option Value) → MatchOption result ((object.fields ≡ []) × (rest ≡ [])) (λ value. object.fields ≡ rest ++ value ∷ []) → IsPopAnswer result old new id
  IsPopAnswer-fields None both = popped_none both.0 both.1
  IsPopAnswer-fields (Some value) parts = popped_some value parts
