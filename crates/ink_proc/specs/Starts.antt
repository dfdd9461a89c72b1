-- With which objects a process starts.
use Rattle.std.specs.Prelude.{◌≡◌, ◌≢◌, ℕ, [], ◌∷◌, IsSome}
use Rattle.std.specs.FinMap.{get}
use Rattle.ink_base.specs.declared.ident.ObjectId.{ObjectId}
use Rattle.ink_base.specs.declared.value.Value.TheVariants.{Own}
use Rattle.ink_base.specs.Tree.{InTree}
use Rattle.ink_base.specs.Objects.{Objects, fields_in}
use Rattle.ink_code.specs.Owned.{AreOwnedOnce}
use Rattle.ink_code.specs.Process.{state_name}

-- a process of this number can start with these objects: its state is the only one that it made, which the process owns;
-- the others are in the tree of the state, and each is owned once
pub record CanStart (number : ℕ) (state : ObjectId) (objects : Objects) : Type 0 where
  pub named : state ≡ state_name number
  pub alone : (id : ObjectId) → IsSome (get objects id) → id.process ≡ number → id ≡ state
  pub below : (id : ObjectId) → IsSome (get objects id) → id ≢ state → InTree (fields_in objects) (fields_in objects state) id
  pub owned : AreOwnedOnce (Own state ∷ []) objects
