-- The objects with which a process starts.
use Rattle.std.specs.Prelude.{◌≢◌, ℕ, List, [], IsSome}
use Rattle.std.specs.FinMap.{get}
use Rattle.ink_base.specs.declared.ident.ObjectId.{ObjectId}
use Rattle.ink_base.specs.declared.object.Object.{Object}
use Rattle.ink_base.specs.declared.value.Value.{Value}
use Rattle.ink_base.specs.Objects.{Objects}

-- the state of a type, with these fields
abbrev pub filled : ℕ → List Value → Object
filled kind fields = record { kind = kind; tag = 0; fields = fields; count = 0 }

-- and without any
abbrev pub blank : ℕ → Object
blank kind = filled kind []

-- none of the objects has the number of a process that isn't there yet
abbrev pub IsFreshFor : ℕ → Objects → Type 0
IsFreshFor number objects = (id : ObjectId) → IsSome (get objects id) → id.process ≢ number
