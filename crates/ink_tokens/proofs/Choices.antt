-- Tests that pass together, and what is chosen by a test.
use Rattle.std.proofs.Common.{◌≡◌, ℕ, suc, ◌+◌, Bool, true, false, cond, ◌&&◌, arith}
use Rattle.std.proofs.lemmas.Bool.{and_parts, and_from}

-- two tests passed
pub both-one : (a b : Bool) → (a && b) ≡ true → a ≡ true
both-one a b all = (and_parts a b all).0

-- and so did the other
pub both-other : (a b : Bool) → (a && b) ≡ true → b ≡ true
both-other a b all = (and_parts a b all).1

-- two tests pass
pub both : (a b : Bool) → a ≡ true → b ≡ true → (a && b) ≡ true
both a b one other = and_from a b one other

-- what holds of either holds of what is chosen
pub chosen-keeps : {A : Type 0} (P : A → Type 0) (b : Bool) (one other : A) → P one → P other → P (cond b one other)
chosen-keeps P true one other of_one of_other = of_one
chosen-keeps P false one other of_one of_other = of_other

-- the two ways to write one more
pub one_more : (n : ℕ) → suc n ≡ 1 + n
one_more n = omega arith

-- and two more
pub two_more : (n : ℕ) → suc (suc n) ≡ 2 + n
two_more n = omega arith
