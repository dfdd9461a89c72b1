-- Lists by number: what stands where after one was replaced or put behind the others, and sums over them.
use Rattle.std.proofs.Common.{◌≡◌, ℕ, zero, suc, ◌+◌, ◌-◌, ◌<◌, ◌==◌, Bool, true, false, if◌then◌else◌, Option, Some, None, List, [], ◌∷◌, ◌++◌, length, refl, sym, ap, ◌∙◌, arith, inl, inr, ◌⊎◌, slice_get, slice_set}
use Rattle.std.specs.List.{sum_by}
use Rattle.std.proofs.lemmas.List.Sums.{sum_by-cons}
use Rattle.std.proofs.Math.Dec.{eqb-suc-zero}
use Rattle.std.proofs.lemmas.Option.{none-some, same_Some}
use Rattle.ink_base.specs.Numbered.{numbered, set_numbered}

-- numbers that both count from 1 are one where their places are
same_number : (n m : ℕ) → (n == 0) ≡ false → (m == 0) ≡ false → m - 1 ≡ n - 1 → m ≡ n
same_number zero m some other is = cc
same_number (suc n) zero some other is = cc
same_number (suc n) (suc m) some other is = omega arith

next_number : (n m : ℕ) → (m == 0) ≡ false → m - 1 ≡ n → m ≡ n + 1
next_number n zero some is = cc
next_number n (suc m) some is = omega arith

not_zero : (n : ℕ) → (n + 1 == 0) ≡ false
not_zero n = not_zero_at (n + 1) (omega arith)
  where
    not_zero_at : (m : ℕ) → 0 < m → (m == 0) ≡ false
    not_zero_at zero some = absurd (omega arith)
    not_zero_at (suc m) some = eqb-suc-zero m

module _ {X : Type 0} where
  sum-slice_set : (f : X → ℕ) (xs : List X) (i : ℕ) (x y : X) → slice_get xs i ≡ Some x → sum_by f (slice_set xs i y) + f x ≡ sum_by f xs + f y
  sum-slice_set f [] i x y is = absurd (none-some x is)
  sum-slice_set f (z ∷ xs) zero x y is =
      let same = ap f (same_Some z x is) in
      let one = sum_by-cons f y xs in
      let other = sum_by-cons f z xs in
      omega arith
  sum-slice_set f (z ∷ xs) (suc i) x y is =
      let behind = sum-slice_set f xs i x y is in
      let one = sum_by-cons f z (slice_set xs i y) in
      let other = sum_by-cons f z xs in
      omega arith

  -- who stands where in a list with one replaced
  was_at : (xs : List X) (i j : ℕ) (y q : X) → slice_get (slice_set xs i y) j ≡ Some q → ((j ≡ i) × (q ≡ y)) ⊎ (slice_get xs j ≡ Some q)
  was_at [] i j y q is = absurd (none-some q is)
  was_at (z ∷ xs) zero zero y q is = inl (refl, sym (same_Some y q is))
  was_at (z ∷ xs) zero (suc j) y q is = inr is
  was_at (z ∷ xs) (suc i) zero y q is = inr is
  was_at (z ∷ xs) (suc i) (suc j) y q is = was_later (was_at xs i j y q is)
    where
      was_later : ((j ≡ i) × (q ≡ y)) ⊎ (slice_get xs j ≡ Some q) → ((suc j ≡ suc i) × (q ≡ y)) ⊎ (slice_get xs j ≡ Some q)
      was_later (inl (at, one)) = inl (ap suc at, one)
      was_later (inr is) = inr is

  is_at : (xs : List X) (i j : ℕ) (y p : X) → slice_get xs j ≡ Some p → ((j ≡ i) × (slice_get (slice_set xs i y) j ≡ Some y)) ⊎ (slice_get (slice_set xs i y) j ≡ Some p)
  is_at [] i j y p is = absurd (none-some p is)
  is_at (z ∷ xs) zero zero y p is = inl (refl, refl)
  is_at (z ∷ xs) zero (suc j) y p is = inr is
  is_at (z ∷ xs) (suc i) zero y p is = inr is
  is_at (z ∷ xs) (suc i) (suc j) y p is = is_later (is_at xs i j y p is)
    where
      is_later : ((j ≡ i) × (slice_get (slice_set xs i y) j ≡ Some y)) ⊎ (slice_get (slice_set xs i y) j ≡ Some p) → ((suc j ≡ suc i) × (slice_get (slice_set xs i y) j ≡ Some y)) ⊎ (slice_get (slice_set xs i y) j ≡ Some p)
      is_later (inl (at, one)) = inl (ap suc at, one)
      is_later (inr is) = inr is

  -- and in one with another behind it
  was_in : (xs : List X) (j : ℕ) (y q : X) → slice_get (xs ++ y ∷ []) j ≡ Some q → ((j ≡ length xs) × (q ≡ y)) ⊎ (slice_get xs j ≡ Some q)
  was_in [] zero y q is = inl (refl, sym (same_Some y q is))
  was_in [] (suc j) y q is = absurd (none-some q is)
  was_in (z ∷ xs) zero y q is = inr is
  was_in (z ∷ xs) (suc j) y q is = was_further (was_in xs j y q is)
    where
      was_further : ((j ≡ length xs) × (q ≡ y)) ⊎ (slice_get xs j ≡ Some q) → ((suc j ≡ suc (length xs)) × (q ≡ y)) ⊎ (slice_get xs j ≡ Some q)
      was_further (inl (at, one)) = inl (ap suc at, one)
      was_further (inr is) = inr is

  stays_in : (xs : List X) (j : ℕ) (y p : X) → slice_get xs j ≡ Some p → slice_get (xs ++ y ∷ []) j ≡ Some p
  stays_in [] j y p is = absurd (none-some p is)
  stays_in (z ∷ xs) zero y p is = is
  stays_in (z ∷ xs) (suc j) y p is = stays_in xs j y p is

  last_in : (xs : List X) (y : X) → slice_get (xs ++ y ∷ []) (length xs) ≡ Some y
  last_in [] y = refl
  last_in (z ∷ xs) y = last_in xs y

  within : (xs : List X) (j : ℕ) (p : X) → slice_get xs j ≡ Some p → j < length xs
  within [] j p is = absurd (none-some p is)
  within (z ∷ xs) zero p is = omega arith
  within (z ∷ xs) (suc j) p is = let low = within xs j p is in omega arith

  length-slice_set : (xs : List X) (i : ℕ) (y : X) → length (slice_set xs i y) ≡ length xs
  length-slice_set [] i y = refl
  length-slice_set (z ∷ xs) zero y = refl
  length-slice_set (z ∷ xs) (suc i) y = ap suc (length-slice_set xs i y)

  -- the same by number, which counts from 1

  some_at : (test : Bool) (found : Option X) (x : X) → (if test then None else found) ≡ Some x → (test ≡ false) × (found ≡ Some x)
  some_at true found x is = absurd (none-some x is)
  some_at false found x is = (refl, is)

  pub at_place : (xs : List X) (n : ℕ) (x : X) → numbered xs n ≡ Some x → ((n == 0) ≡ false) × (slice_get xs (n - 1) ≡ Some x)
  at_place xs n x is = some_at (n == 0) (slice_get xs (n - 1)) x is

  pub from_place : (xs : List X) (n : ℕ) (found : Option X) → (n == 0) ≡ false → slice_get xs (n - 1) ≡ found → numbered xs n ≡ found
  from_place xs n found some is = ap (λ (test : Bool). if test then None else slice_get xs (n - 1)) some ∙ is

  replaced : (xs : List X) (n : ℕ) (y : X) → (n == 0) ≡ false → set_numbered xs n y ≡ slice_set xs (n - 1) y
  replaced xs n y some = ap (λ (test : Bool). if test then xs else slice_set xs (n - 1) y) some

  pub sum-set_numbered : (f : X → ℕ) (xs : List X) (n : ℕ) (x y : X) → numbered xs n ≡ Some x → sum_by f (set_numbered xs n y) + f x ≡ sum_by f xs + f y
  sum-set_numbered f xs n x y is =
      let at = at_place xs n x is in
      ap (λ ys. sum_by f ys + f x) (replaced xs n y at.0) ∙ sum-slice_set f xs (n - 1) x y at.1

  pub length-set_numbered : (xs : List X) (n : ℕ) (x y : X) → numbered xs n ≡ Some x → length (set_numbered xs n y) ≡ length xs
  length-set_numbered xs n x y is =
      ap length (replaced xs n y (at_place xs n x is).0) ∙ length-slice_set xs (n - 1) y

  pub number_within : (xs : List X) (n : ℕ) (x : X) → numbered xs n ≡ Some x → (0 < n) × (n < length xs + 1)
  number_within xs n x is =
      let at = at_place xs n x is in
      let low = within xs (n - 1) x at.1 in
      let some = at.0 in
      (positive n some, omega arith)
    where
      positive : (m : ℕ) → (m == 0) ≡ false → 0 < m
      positive zero none = cc
      positive (suc m) none = omega arith

  -- who has which number after one was replaced
  pub set_was : (xs : List X) (n m : ℕ) (x y q : X) → numbered xs n ≡ Some x → numbered (set_numbered xs n y) m ≡ Some q → ((m ≡ n) × (q ≡ y)) ⊎ (numbered xs m ≡ Some q)
  set_was xs n m x y q is now =
      let here = at_place xs n x is in
      let there = at_place (slice_set xs (n - 1) y) m q (ap (λ ys. numbered ys m) (sym (replaced xs n y here.0)) ∙ now) in
      told here.0 there.0 (was_at xs (n - 1) (m - 1) y q there.1)
    where
      told : (n == 0) ≡ false → (m == 0) ≡ false → ((m - 1 ≡ n - 1) × (q ≡ y)) ⊎ (slice_get xs (m - 1) ≡ Some q) → ((m ≡ n) × (q ≡ y)) ⊎ (numbered xs m ≡ Some q)
      told some other (inl (at, one)) = inl (same_number n m some other at, one)
      told some other (inr was) = inr (from_place xs m (Some q) other was)

  pub set_is : (xs : List X) (n m : ℕ) (x y p : X) → numbered xs n ≡ Some x → numbered xs m ≡ Some p → ((m ≡ n) × (numbered (set_numbered xs n y) m ≡ Some y)) ⊎ (numbered (set_numbered xs n y) m ≡ Some p)
  set_is xs n m x y p is was =
      let here = at_place xs n x is in
      let there = at_place xs m p was in
      told here.0 there.0 (is_at xs (n - 1) (m - 1) y p there.1)
    where
      with_set : (found : Option X) → (n == 0) ≡ false → (m == 0) ≡ false → slice_get (slice_set xs (n - 1) y) (m - 1) ≡ found → numbered (set_numbered xs n y) m ≡ found
      with_set found some other at = ap (λ ys. numbered ys m) (replaced xs n y some) ∙ from_place (slice_set xs (n - 1) y) m found other at

      told : (n == 0) ≡ false → (m == 0) ≡ false → ((m - 1 ≡ n - 1) × (slice_get (slice_set xs (n - 1) y) (m - 1) ≡ Some y)) ⊎ (slice_get (slice_set xs (n - 1) y) (m - 1) ≡ Some p) → ((m ≡ n) × (numbered (set_numbered xs n y) m ≡ Some y)) ⊎ (numbered (set_numbered xs n y) m ≡ Some p)
      told some other (inl (at, one)) = inl (same_number n m some other at, with_set (Some y) some other one)
      told some other (inr at) = inr (with_set (Some p) some other at)

  -- and after one was put behind the others
  pub push_was : (xs : List X) (m : ℕ) (y q : X) → numbered (xs ++ y ∷ []) m ≡ Some q → ((m ≡ length xs + 1) × (q ≡ y)) ⊎ (numbered xs m ≡ Some q)
  push_was xs m y q is =
      let at = at_place (xs ++ y ∷ []) m q is in
      told at.0 (was_in xs (m - 1) y q at.1)
    where
      told : (m == 0) ≡ false → ((m - 1 ≡ length xs) × (q ≡ y)) ⊎ (slice_get xs (m - 1) ≡ Some q) → ((m ≡ length xs + 1) × (q ≡ y)) ⊎ (numbered xs m ≡ Some q)
      told some (inl (at, one)) = inl (next_number (length xs) m some at, one)
      told some (inr was) = inr (from_place xs m (Some q) some was)

  pub push_is : (xs : List X) (m : ℕ) (y p : X) → numbered xs m ≡ Some p → numbered (xs ++ y ∷ []) m ≡ Some p
  push_is xs m y p is =
      let at = at_place xs m p is in
      from_place (xs ++ y ∷ []) m (Some p) at.0 (stays_in xs (m - 1) y p at.1)

  pub push_last : (xs : List X) (y : X) → numbered (xs ++ y ∷ []) (length xs + 1) ≡ Some y
  push_last xs y =
      from_place (xs ++ y ∷ []) (length xs + 1) (Some y) (not_zero (length xs)) (ap (slice_get (xs ++ y ∷ [])) (less (length xs)) ∙ last_in xs y)
    where
      less : (n : ℕ) → (n + 1) - 1 ≡ n
      less n = omega arith

  here_at : (xs : List X) (i : ℕ) (x y : X) → slice_get xs i ≡ Some x → slice_get (slice_set xs i y) i ≡ Some y
  here_at [] i x y is = absurd (none-some x is)
  here_at (z ∷ xs) zero x y is = refl
  here_at (z ∷ xs) (suc i) x y is = here_at xs i x y is

  pub set_here : (xs : List X) (n : ℕ) (x y : X) → numbered xs n ≡ Some x → numbered (set_numbered xs n y) n ≡ Some y
  set_here xs n x y is =
      let at = at_place xs n x is in
      ap (λ ys. numbered ys n) (replaced xs n y at.0)
      ∙ from_place (slice_set xs (n - 1) y) n (Some y) at.0 (here_at xs (n - 1) x y at.1)

  -- who stands at a place has the next number
  pub place_number : (xs : List X) (i : ℕ) (found : Option X) → slice_get xs i ≡ found → numbered xs (i + 1) ≡ found
  place_number xs i found is = from_place xs (i + 1) found (not_zero i) (ap (slice_get xs) (less i) ∙ is)
    where
      less : (n : ℕ) → (n + 1) - 1 ≡ n
      less n = omega arith
