-- How the states of a future are told apart.
use Rattle.std.specs.Prelude.{◌≡◌, ℕ, Bool, true, false, Option, None, Some, refl}
use Rattle.ink_base.specs.declared.future.FutureState.{FutureState}
use Rattle.ink_base.specs.declared.future.FutureState.TheVariants.{Open, Set, Broken, Taken}
use Rattle.ink_code.specs.Trees.{Parcel}

-- a state as whether a value was set, whether it is still there, and whether the future is broken
abbrev pub as_parts : FutureState Parcel → Option (Option Parcel) × Bool
as_parts Open = (None, false)
as_parts (Set value) = (Some (Some value), false)
as_parts Broken = (None, true)
as_parts Taken = (Some None, false)

abbrev pub of_parts : Option (Option Parcel) × Bool → FutureState Parcel
of_parts (None, false) = Open
of_parts (None, true) = Broken
of_parts (Some None, broken) = Taken
of_parts (Some (Some value), broken) = Set value

pub parts_back : (state : FutureState Parcel) → of_parts (as_parts state) ≡ state
parts_back Open = refl
parts_back (Set value) = refl
parts_back Broken = refl
parts_back Taken = refl
