-- Whether an object is in a value's tree doesn't depend on counts.
use Rattle.std.proofs.Common.{◌≡◌, ℕ, zero, suc, Bool, true, false, cond, Option, None, Some, List, [], ◌∷◌, ◌++◌, refl, sym, ap, ◌∙◌}
use Rattle.std.specs.Ordering.{is_eq}
use Rattle.std.specs.Option.{option_map, option_map_or}
use Rattle.std.specs.FinMap.{get, len}
use Rattle.ink_base.specs.declared.ident.ObjectId.{ObjectId}
use Rattle.ink_base.specs.declared.object.Object.{Object}
use Rattle.ink_base.specs.declared.value.Value.{Value}
use Rattle.ink_base.specs.Ident.{id_cmp}
use Rattle.ink_base.specs.Objects.{Objects, fields_in, changed_object, counted_down}
use Rattle.ink_code.specs.Trees.{first_owned, meets_first, meets, is_under}
use Rattle.ink_heap.proofs.ObjectsLemmas.{get-changed_object, len-changed_object, is_same, is_same-one}

first_alike : (id : ObjectId) (first : Option (ObjectId × List Value)) (one other : Objects) (further instead : List Value → Bool) → ((name : ObjectId) → fields_in one name ≡ fields_in other name) → ((values : List Value) → further values ≡ instead values) → meets_first id first one further ≡ meets_first id first other instead
first_alike id None one other further instead same step = refl
first_alike id (Some (name, rest)) one other further instead same step =
    ap (λ met. cond (is_eq (id_cmp name id)) true met) (step (fields_in one name ++ rest) ∙ ap (λ fields. instead (fields ++ rest)) (same name))

meets_alike : (most : ℕ) (id : ObjectId) (values : List Value) (one other : Objects) → ((name : ObjectId) → fields_in one name ≡ fields_in other name) → meets most id values one ≡ meets most id values other
unfolding meets
meets_alike zero id values one other same = refl
meets_alike (suc most) id values one other same =
    first_alike id (first_owned values) one other (λ more. meets most id more one) (λ more. meets most id more other) same (λ more. meets_alike most id more one other same)

abbrev fields_of : Option Object → List Value
fields_of found = option_map_or (λ object. object.fields) found []

same_found : (found : Option Object) → fields_of (option_map counted_down found) ≡ fields_of found
same_found None = refl
same_found (Some object) = refl

same_picked : (test : Bool) (changed had other : Option Object) → fields_of changed ≡ fields_of had → (test ≡ true → had ≡ other) → fields_of (cond test changed other) ≡ fields_of other
same_picked true changed had other same is = same ∙ ap fields_of (is refl)
same_picked false changed had other same is = refl

fields-counted : (objects : Objects) (id name : ObjectId) → fields_in (changed_object objects id counted_down) name ≡ fields_in objects name
fields-counted objects id name =
    ap fields_of (get-changed_object objects id counted_down name)
    ∙ same_picked (is_same name id) (option_map counted_down (get objects id)) (get objects id) (get objects name) (same_found (get objects id)) (λ same. sym (ap (get objects) (is_same-one name id same)))

-- the walk is the same after a borrow ended
pub is_under-counted : (id : ObjectId) (value : Value) (objects : Objects) (ended : ObjectId) → is_under id value (changed_object objects ended counted_down) ≡ is_under id value objects
unfolding is_under
is_under-counted id value objects ended =
    ap (λ most. meets most id (value ∷ []) (changed_object objects ended counted_down)) (len-changed_object objects ended counted_down)
    ∙ meets_alike (len objects) id (value ∷ []) (changed_object objects ended counted_down) objects (fields-counted objects ended)

pub ruleset cycles = (is_under-counted)
