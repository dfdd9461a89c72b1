-- Which objects some values own, in the order of the values.
use Rattle.std.specs.Prelude.{List, [], ◌∷◌, ◌++◌}
use Rattle.ink_base.specs.declared.ident.ObjectId.{ObjectId}
use Rattle.ink_base.specs.declared.value.Value.{Value}
use Rattle.ink_base.specs.declared.value.Value.TheVariants as v

-- the object that a value owns, or none
abbrev pub owner_in : Value → List ObjectId
owner_in (v.Own id) = id ∷ []
owner_in value = []

-- those that some values own
abbrev pub owners : List Value → List ObjectId
owners [] = []
owners (value ∷ values) = owner_in value ++ owners values
