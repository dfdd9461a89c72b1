-- What stays as it is while a reply is put in its place.
use Rattle.std.proofs.Common.{◌≡◌, ℕ, Bool, true, false, cond, Option, None, List, [], ◌∷◌, refl, sym, ap, ◌∙◌}
use Rattle.std.specs.FinMap.{get}
use Rattle.std.specs.Option.{option_map}
use Rattle.ink_base.specs.declared.ident.ObjectId.{ObjectId}
use Rattle.ink_base.specs.declared.object.Object.{Object}
use Rattle.ink_base.specs.declared.value.Value.{Value}
use Rattle.ink_base.specs.Objects.{Objects, changed_object}
use Rattle.ink_code.specs.declared.frame.Frame.{Frame}
use Rattle.ink_code.specs.Machine.{next_place}
use Rattle.ink_code.specs.Process.{with_register}
use Rattle.ink_heap.proofs.ObjectsLemmas.{get-changed_object, is_same, is_same-one}
use Rattle.ink_parcel.specs.Parts.{AreApartFrom}

absent_still : (test : Bool) (was here : Option Object) (change : Object → Object) → here ≡ None → (test ≡ true → was ≡ here) → cond test (option_map change was) here ≡ None
absent_still true was here change none same = ap (option_map change) (same refl ∙ none)
absent_still false was here change none same = none

-- objects that are apart from others are so after one of them has changed
pub still_apart : (objects part : Objects) (id : ObjectId) (change : Object → Object) → AreApartFrom objects part → AreApartFrom (changed_object objects id change) part
still_apart objects part id change apart other there =
    get-changed_object objects id change other
    ∙ absent_still (is_same other id) (get objects id) (get objects other) change (apart other there) (λ same. ap (get objects) (sym (is_same-one other id same)))

-- a register that is set moves no place
pub same_place : (number : ℕ) (value : Value) (frames : List Frame) → next_place (with_register number value frames) ≡ next_place frames
unfolding with_register
same_place number value [] = refl
same_place number value (frame ∷ outer) = refl
