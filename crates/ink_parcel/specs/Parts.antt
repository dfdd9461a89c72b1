-- Objects in two parts: those of a parcel, and the rest in a heap.
use Rattle.std.specs.Prelude.{◌≡◌, ◌↔◌, Option, None, Some, List, IsSome}
use Rattle.std.specs.FinMap.{get}
use Rattle.ink_base.specs.declared.ident.ObjectId.{ObjectId}
use Rattle.ink_base.specs.declared.value.Value.{Value}
use Rattle.ink_base.specs.Tree.{InTree}
use Rattle.ink_base.specs.declared.object.Object.{Object}
use Rattle.ink_base.specs.Objects.{Objects, fields_in}

-- what the whole, the rest and the part have under one name: what the part has, the whole has and the rest has not;
-- where the part has nothing, the rest has what the whole has
abbrev pub IsSplit : Option Object → Option Object → Option Object → Type 0
IsSplit whole rest None = rest ≡ whole
IsSplit whole rest (Some object) = (rest ≡ None) × (whole ≡ Some object)

-- each object of the whole stands unchanged in either the rest or the part, and no other object does
abbrev pub Splits : Objects → Objects → Objects → Type 0
Splits whole rest part = (id : ObjectId) → IsSplit (get whole id) (get rest id) (get part id)

-- the part has exactly the objects of the ownership tree of the values that the whole has
abbrev pub HoldsTree : Objects → List Value → Objects → Type 0
HoldsTree whole values part =
    (id : ObjectId) → IsSome (get part id) ↔ (InTree (fields_in whole) values id × IsSome (get whole id))

-- no name has an object in both
abbrev pub AreApartFrom : Objects → Objects → Type 0
AreApartFrom objects part = (id : ObjectId) → IsSome (get part id) → get objects id ≡ None
