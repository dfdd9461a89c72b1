-- Pairs of a name and an object: which name stands where.
use Rattle.std.specs.Prelude.{◌≡◌, ℕ, ◌<◌, Some, None, List, [], ◌∷◌, length}
use Rattle.std.specs.List.{slice_get}
use Rattle.std.specs.FinMap.{find, get, from_entries}
use Rattle.ink_base.specs.declared.ident.ObjectId.{ObjectId}
use Rattle.ink_base.specs.Ident.{id_cmp}
use Rattle.ink_base.specs.declared.object.Object.{Object}

abbrev pub Pairs : Type 0
Pairs = List (ObjectId × Object)

-- no name stands twice
abbrev pub AreApart : Pairs → Type 0
AreApart [] = Unit {0}
AreApart (pair ∷ pairs) = (find id_cmp pair.0 pairs ≡ None) × AreApart pairs

-- the name stands at this index, with the object that the map of the pairs has under it
abbrev pub HoldsName : Pairs → ℕ → ObjectId → Type 0
HoldsName pairs index id =
    (index < length pairs) × ((object : Object) × (slice_get pairs index ≡ Some (id, object)) × (get (from_entries {R = id_cmp} pairs) id ≡ Some object))
