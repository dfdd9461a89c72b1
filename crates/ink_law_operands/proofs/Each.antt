-- What holds of each row of a list, by the row's index.
use Rattle.std.proofs.Common.{◌≡◌, ℕ, zero, suc, Some, List, [], ◌∷◌, subst}
use Rattle.std.specs.List.{slice_get}
use Rattle.ink_base.specs.Rows.{Row}

-- of each of these rows
abbrev pub Each : List Row → (ℕ → Row → Type 0) → Type 0
Each [] P = Unit {0}
Each (row ∷ rows) P = P 0 row × Each rows (λ index. P (suc index))

the_same : (x y : Row) → Some x ≡ Some y → x ≡ y
the_same x y e = cc

pub each-row : (P : ℕ → Row → Type 0) (rows : List Row) → Each rows P → (index : ℕ) (row : Row) → slice_get rows index ≡ Some row → P index row
each-row P [] each index row there = absurd (cc)
each-row P (first ∷ rows) (holds, others) zero row there = subst (P zero) (the_same first row there) holds
each-row P (first ∷ rows) (holds, others) (suc index) row there = each-row (λ index. P (suc index)) rows others index row there
