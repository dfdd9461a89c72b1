-- How often objects are owned: by values, and by the fields of objects.
use Rattle.std.specs.Prelude.{◌≡◌, ℕ, ◌+◌, Bool, true, false, List}
use Rattle.std.specs.FinMap.{contains_key, entries}
use Rattle.std.specs.List.{sum_by}
use Rattle.std.specs.Ordering.{eq_by_cmp}
use Rattle.ink_base.specs.declared.ident.ObjectId.{ObjectId}
use Rattle.ink_base.specs.declared.value.Value.{Value}
use Rattle.ink_base.specs.declared.value.Value.TheVariants as v
use Rattle.ink_base.specs.Ident.{id_cmp}
use Rattle.ink_base.specs.Objects.{Objects}

abbrev pub one_if : Bool → ℕ
one_if true = 1
one_if false = 0

-- whether a value owns an object
abbrev pub owns : ObjectId → Value → Bool
owns id (v.Own other) = eq_by_cmp id_cmp id other
owns id value = false

-- how many of some values own an object
abbrev pub times_owned_by : ObjectId → List Value → ℕ
times_owned_by id values = sum_by (λ value. one_if (owns id value)) values

-- how many fields of some objects own one
abbrev pub times_owned_in : ObjectId → Objects → ℕ
times_owned_in id objects = sum_by (λ entry. times_owned_by id entry.1.fields) (entries objects)

-- how often an object stands among some: once or not at all
abbrev pub times_there : ObjectId → Objects → ℕ
times_there id objects = one_if (contains_key objects id)

-- each of the objects is owned once, by one of the values or by a field of an object, and they own no other
abbrev pub AreOwnedOnce : List Value → Objects → Type 0
AreOwnedOnce values objects = (id : ObjectId) → times_owned_by id values + times_owned_in id objects ≡ times_there id objects
