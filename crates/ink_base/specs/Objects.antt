-- Objects by name, and what is changed of one.
use Rattle.std.specs.Prelude.{ℕ, ◌+◌, ◌-◌, Bool, false, nat_lt, Option, None, Some, List, [], ◌∷◌, ◌++◌, length, take, slice_set}
use Rattle.std.specs.Option.{option_map_or}
use Rattle.std.specs.FinMap.{FinMap, get, insert}
use Rattle.ink_base.specs.declared.ident.ObjectId.{ObjectId}
use Rattle.ink_base.specs.declared.value.Value.{Value}
use Rattle.ink_base.specs.Ident.{id_cmp}
use Rattle.ink_base.specs.declared.object.Object.{Object}

abbrev pub Objects : Type 0
Objects = FinMap id_cmp Object

-- the values in the fields of an object, and none where it isn't there
abbrev pub fields_in : Objects → ObjectId → List Value
fields_in objects id = option_map_or (λ object. object.fields) (get objects id) []

abbrev pub change_found : Option Object → Objects → ObjectId → (Object → Object) → Objects
change_found None objects id change = objects
change_found (Some object) objects id change = insert objects id (change object)

-- the objects after that of one name changed so; all as before where it isn't there
unfoldable pub changed_object : Objects → ObjectId → (Object → Object) → Objects
changed_object objects id change = change_found (get objects id) objects id change

-- an object with this value in a field
abbrev pub with_field : ℕ → Value → Object → Object
with_field index value object = record object { fields = slice_set object.fields index value }

-- with one field more behind the others
abbrev pub with_more : Value → Object → Object
with_more value object = record object { fields = object.fields ++ value ∷ [] }

-- without its last field
abbrev pub without_last : Object → Object
without_last object = record object { fields = take (length object.fields - 1) object.fields }

-- with one borrow more, and with one less
abbrev pub counted_up : Object → Object
counted_up object = record object { count = object.count + 1 }

abbrev pub counted_down : Object → Object
counted_down object = record object { count = object.count - 1 }

-- whether it is there with a borrow
abbrev pub is_counted : Option Object → Bool
is_counted None = false
is_counted (Some object) = nat_lt 0 object.count
