-- What the steps of a cut make of a heap and of the pairs that were moved out of it.
use Rattle.std.specs.Prelude.{◌≡◌, ◌≢◌, ℕ, ◌+◌, ◌<◌, ◌≤◌, Option, None, Some, List, [], ◌++◌, length, Contains, IsSome}
use Rattle.std.specs.List.{slice_get}
use Rattle.std.specs.Option.{option_map_or}
use Rattle.std.specs.FinMap.{find, get, len}
use Rattle.ink_base.specs.declared.ident.ObjectId.{ObjectId}
use Rattle.ink_base.specs.declared.value.Value.{Value}
use Rattle.ink_base.specs.declared.value.Value.TheVariants.{Own}
use Rattle.ink_base.specs.Ident.{id_cmp}
use Rattle.ink_base.specs.Objects.{Objects}
use Rattle.ink_heap.specs.Pairs.{Pairs, AreApart}
use Rattle.ink_heap.specs.View.{HeapView}
use Rattle.ink_parcel.specs.Parts.{IsSplit}

-- a heap's objects in two parts, of which one is a list of pairs
abbrev pub SplitsOff : Objects → Objects → Pairs → Type 0
SplitsOff whole rest pairs = (id : ObjectId) → IsSplit (get whole id) (get rest id) (find id_cmp id pairs)

-- some objects with these names went out of the heap and behind the pairs that were moved before, and left their room
pub record Moves (names : ObjectId → Type 0) (before after : HeapView) (had has : Pairs) : Type 0 where
  pub more : Pairs
  pub grown : has ≡ had ++ more
  pub apart : AreApart more
  pub split : SplitsOff before.objects after.objects more
  pub named : (id : ObjectId) → IsSome (find id_cmp id more) → names id
  pub room : before.spare + length more ≤ after.spare
  pub total : len after.objects + length more ≡ len before.objects

-- no object that the values own is there
abbrev pub AreGone : List Value → Objects → Type 0
AreGone values objects = (id : ObjectId) → Contains values (Own id) → get objects id ≡ None

-- the fields of the object at this index
abbrev pub fields_at : Pairs → ℕ → List Value
fields_at pairs index = option_map_or (λ pair. pair.1.fields) (slice_get pairs index) []

-- of the first so many pairs no object is there that a field owns
abbrev pub HaveBeenLookedAt : Pairs → ℕ → Objects → Type 0
HaveBeenLookedAt pairs count objects = (index : ℕ) → index < count → AreGone (fields_at pairs index) objects

-- the object that the value at this index owns; none where it is another value, or past the end
abbrev pub OwnedAt : Option ObjectId → List Value → ℕ → Type 0
OwnedAt None values index = (id : ObjectId) → slice_get values index ≢ Some (Own id)
OwnedAt (Some id) values index = slice_get values index ≡ Some (Own id)

-- pairs of which no name stands twice, and none has an object there
abbrev pub CanBePut : Objects → Pairs → Type 0
CanBePut objects pairs = AreApart pairs × ((id : ObjectId) → IsSome (find id_cmp id pairs) → get objects id ≡ None)
