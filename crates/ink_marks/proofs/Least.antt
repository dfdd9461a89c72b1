-- The least number that is marked, from level to level.
use Rattle.std.proofs.Common.{◌≡◌, ℕ, zero, suc, ◌+◌, ◌*◌, ◌/◌, ◌%◌, ◌<◌, ◌≤◌, ◌^◌, Bool, true, false, eqb, not, Option, None, Some, List, length, refl, sym, ap, ◌∙◌, ⊎_elim, w64, arith}
use Rattle.std.specs.Int.{bit_at, trailing_zeros}
use Rattle.std.proofs.lemmas.Bool.{cases_lt}
use Rattle.std.proofs.lemmas.List.{get_or_past}
use Rattle.std.proofs.lemmas.Nat.Bits.{bit_at-zero, bit_at-trailing_zeros}
use Rattle.ink_marks.specs.Marks.{word, is_marked, is_some, IsLeast}

-- the same for what passes alike
pub least_alike : (f g : ℕ → Bool) → ((n : ℕ) → f n ≡ g n) → (o : Option ℕ) → IsLeast f o → IsLeast g o
least_alike f g alike None none = λ n. sym (alike n) ∙ none n
least_alike f g alike (Some k) least = (sym (alike k) ∙ least.0, λ m below. sym (alike m) ∙ least.1 m below)

no_bit : (w i : ℕ) → w ≡ 0 → eqb (bit_at w i) 1 ≡ false
no_bit w i e = ap (λ v. eqb (bit_at v i) 1) e ∙ ap (λ b. eqb b 1) (bit_at-zero i)

is_zero : (w : ℕ) → not (eqb w 0) ≡ false → w ≡ 0
is_zero zero h = refl
is_zero (suc w) h = absurd (positive w h)
  where
    positive : (w : ℕ) → not (eqb (suc w) 0) ≡ false → ⊥
    positive w h = let e : eqb (suc w) 0 ≡ false = grind arith in let q : true ≡ false = sym (ap not e) ∙ h in cc

is_positive : (w : ℕ) → not (eqb w 0) ≡ true → 0 < w
is_positive zero h = absurd (cc)
is_positive (suc w) h = omega arith

-- where no word has a mark, no number has
pub none_marked : (words : List ℕ) → IsLeast (is_some words) None → IsLeast (is_marked words) None
none_marked words none n = no_bit (word words (n / 64)) (n % 64) (is_zero (word words (n / 64)) (none (n / 64)))

pub word_within : (words : List ℕ) (k : ℕ) → is_some words k ≡ true → k < length words
word_within words k some =
    ⊎_elim (λ below. below) (λ past. absurd (past_none past)) (cases_lt k (length words))
  where
    past_none : length words ≤ k → ⊥
    past_none past =
        let e : is_some words k ≡ false = ap (λ w. not (eqb w 0)) (get_or_past words k 0 past) in
        cc

module _ (words : List ℕ) (first : ℕ) (range : word words first < 2 ^ 64) (least : IsLeast (is_some words) (Some first)) where
  abbrev pub t : ℕ
  t = trailing_zeros w64 (word words first)

  found : (t < 64) × (bit_at (word words first) t ≡ 1) × ((i : ℕ) → i < t → bit_at (word words first) i ≡ 0)
  found = bit_at-trailing_zeros w64 (word words first) (is_positive (word words first) least.0) range

  pub rest_below : t < 64
  rest_below = found.0

  quotient : (64 * first + t) / 64 ≡ first
  quotient = let b : t < 64 = found.0 in omega arith

  rest : (64 * first + t) % 64 ≡ t
  rest = let b : t < 64 = found.0 in omega arith

  pub marked_there : is_marked words (64 * first + t) ≡ true
  marked_there =
      ap (λ k. eqb (bit_at (word words k) ((64 * first + t) % 64)) 1) quotient
      ∙ ap (λ i. eqb (bit_at (word words first) i) 1) rest
      ∙ ap (λ b. eqb b 1) found.1

  in_first : (m : ℕ) → m < 64 * first + t → m / 64 ≡ first → is_marked words m ≡ false
  in_first m below e =
      ap (λ k. eqb (bit_at (word words k) (m % 64)) 1) e
      ∙ ap (λ b. eqb b 1) (found.2 (m % 64) (omega arith))

  before_first : (m : ℕ) → m / 64 < first → is_marked words m ≡ false
  before_first m below = no_bit (word words (m / 64)) (m % 64) (is_zero (word words (m / 64)) (least.1 (m / 64) below))

  none_before : (m : ℕ) → m < 64 * first + t → is_marked words m ≡ false
  none_before m below =
      ⊎_elim (before_first m)
      (λ from. in_first m below (let b : t < 64 = found.0 in omega arith))
      (cases_lt (m / 64) first)

  pub lowest_marked : IsLeast (is_marked words) (Some (64 * first + t))
  lowest_marked = (marked_there, none_before)
