-- What holds of each number from one to before another.
use Rattle.std.proofs.Common.{◌+◌, ◌<◌, ◌≤◌, ℕ, subst, sym, arith}
use Rattle.std.proofs.Math.Logic.{⊎_elim}
use Rattle.std.proofs.Math.Nat.{eq-or-lt_of_le}

-- one more
pub one_more : (P : ℕ → Type 0) (first n : ℕ) → ((k : ℕ) → first ≤ k → k < n → P k) → P n
    → (k : ℕ) → first ≤ k → k < n + 1 → P k
one_more P first n before here k low high =
    let most : k ≤ n = omega arith in
    ⊎_elim (λ same. subst P (sym same) here) (λ less. before k low less) (eq-or-lt_of_le most)
