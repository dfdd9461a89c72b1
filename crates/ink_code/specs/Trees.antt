-- Ownership trees: what is cut out of the objects of a process, and joined to those of another.
use Rattle.std.specs.Prelude.{ℕ, zero, suc, Bool, true, false, if◌then◌else◌, Option, None, Some, Result, Ok, Err, List, [], ◌∷◌, ◌++◌}
use Rattle.std.specs.FinMap.{get, insert, remove, len, empty, entries}
use Rattle.std.specs.Ordering.{is_eq}
use Rattle.ink_base.specs.declared.ident.ObjectId.{ObjectId}
use Rattle.ink_base.specs.declared.value.Value.{Value}
use Rattle.ink_base.specs.declared.value.Value.TheVariants as v
use Rattle.ink_base.specs.Ident.{id_cmp}
use Rattle.ink_base.specs.declared.object.Object.{Object}
use Rattle.ink_code.specs.declared.wrong.Wrong.{Wrong}
use Rattle.ink_code.specs.declared.wrong.Wrong.TheVariants as wrong
use Rattle.ink_base.specs.Objects.{Objects, fields_in}

-- what goes from one process to another: values, and the objects of their tree
pub record Parcel : Type 0 where
  pub values : List Value
  pub objects : Objects

-- the first object that some values own, and the values behind it
abbrev pub first_owned : List Value → Option (ObjectId × List Value)
first_owned [] = None
first_owned (v.Own id ∷ rest) = Some (id, rest)
first_owned (value ∷ rest) = first_owned rest

-- objects of which some were taken out
pub record Parted : Type 0 where
  pub left : Objects
  pub taken : Objects

abbrev pub take_if : Option Object → ObjectId → List Value → Parted → (List Value → Parted → Result Parted Wrong) → Result Parted Wrong
take_if None id rest parted further = Err wrong.Object
take_if (Some object) id rest parted further =
    further (rest ++ object.fields) (record { left = remove parted.left id; taken = insert parted.taken id object })

abbrev pub take_first : Option (ObjectId × List Value) → Parted → (List Value → Parted → Result Parted Wrong) → Result Parted Wrong
take_first None parted further = Ok parted
take_first (Some (id, rest)) parted further = take_if (get parted.left id) id rest parted further

abbrev pub none_owned : Option (ObjectId × List Value) → Parted → Result Parted Wrong
none_owned None parted = Ok parted
none_owned (Some first) parted = Err wrong.Object

-- the objects that values own are taken out, and then those that the fields of these own: each has to be there at its
-- turn, and there are at most so many
unfoldable pub parted_by : ℕ → List Value → Parted → Result Parted Wrong
parted_by zero values parted = none_owned (first_owned values) parted
parted_by (suc most) values parted = take_first (first_owned values) parted (λ more parts. parted_by most more parts)

-- the objects parted into the tree of some values and the others
unfoldable pub parted_of : List Value → Objects → Result Parted Wrong
parted_of values objects = parted_by (len objects) values (record { left = objects; taken = empty })

abbrev pub put_each : List (ObjectId × Object) → Objects → Objects
put_each [] objects = objects
put_each ((id, object) ∷ rest) objects = insert (put_each rest objects) id object

-- the objects with those of a parcel
unfoldable pub joined : Objects → Parcel → Objects
joined objects parcel = put_each (entries parcel.objects) objects

abbrev pub meets_first : ObjectId → Option (ObjectId × List Value) → Objects → (List Value → Bool) → Bool
meets_first id None objects further = false
meets_first id (Some (first, rest)) objects further =
    if is_eq (id_cmp first id) then true else further (fields_in objects first ++ rest)

-- whether a walk down the objects that values own comes to that one, in so many steps
unfoldable pub meets : ℕ → ObjectId → List Value → Objects → Bool
meets zero id values objects = false
meets (suc most) id values objects = meets_first id (first_owned values) objects (λ more. meets most id more objects)

-- whether an object is in the tree of a value, by a walk of as many steps as there are objects: where each object is owned
-- once, it is so exactly where the object is in the tree
unfoldable pub is_under : ObjectId → Value → Objects → Bool
is_under id value objects = meets (len objects) id (value ∷ []) objects
