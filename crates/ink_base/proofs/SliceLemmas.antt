-- The items of a list by their indices.
use Rattle.std.proofs.Common.{◌≡◌, Some, List, [], ◌∷◌, ◌++◌, length, refl}
use Rattle.std.specs.List.{slice_get}

pub slice_get-append_last : {X : Type 0} (xs : List X) (y : X) → slice_get (xs ++ y ∷ []) (length xs) ≡ Some y
slice_get-append_last [] y = refl
slice_get-append_last (x ∷ xs) y = slice_get-append_last xs y
