-- What the whole table keeps, each by one computed test, and rows by their numbers.
use Rattle.std.proofs.Common.{◌≡◌, ℕ, zero, suc, true, Some, List, [], ◌∷◌, length, map, refl, ap}
use Rattle.std.specs.List.{list_all, slice_get}
use Rattle.ink_base.specs.Rows.{rows}
use Rattle.ink_prims.specs.Rule.{keeps_rule, are_apart}
use Rattle.ink_prims.specs.Table.{row_count}

-- each row keeps the rule
pub keeps_rule-rows : list_all keeps_rule rows ≡ true
unfolding rows
keeps_rule-rows = refl

-- no type has two methods of one name
pub are_apart-rows : are_apart rows ≡ true
unfolding rows
are_apart-rows = refl

pub length-rows : length rows ≡ row_count
unfolding rows
length-rows = refl

the_same : {X : Type 0} (x y : X) → Some x ≡ Some y → x ≡ y
the_same x y e = cc

pub slice_get_map : {X Y : Type 0} (f : X → Y) (xs : List X) (i : ℕ) (x : X) → slice_get xs i ≡ Some x → slice_get (map f xs) i ≡ Some (f x)
slice_get_map f [] i x there = absurd (cc)
slice_get_map f (y ∷ xs) zero x there = ap Some (ap f (the_same y x there))
slice_get_map f (y ∷ xs) (suc i) x there = slice_get_map f xs i x there
