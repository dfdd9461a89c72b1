-- A set of numbers as the bits of words.
use Rattle.std.specs.Prelude.{◌≡◌, ℕ, ◌/◌, ◌%◌, ◌<◌, ◌≤◌, ◌*◌, ◌^◌, Bool, true, false, eqb, not, cond, Option, None, Some, List, length, slice_index_or}
use Rattle.std.specs.Int.{bit_at}

-- a word, and 0 behind the last
abbrev pub word : List ℕ → ℕ → ℕ
word words k = slice_index_or words k 0

abbrev pub bit_of : Bool → ℕ
bit_of mark = cond mark 1 0

-- a number is marked
abbrev pub is_marked : List ℕ → ℕ → Bool
is_marked words n = eqb (bit_at (word words (n / 64)) (n % 64)) 1

-- a word has a mark
abbrev pub is_some : List ℕ → ℕ → Bool
is_some words k = not (eqb (word words k) 0)

-- the least number that passes
abbrev pub IsLeast : (ℕ → Bool) → Option ℕ → Type 0
IsLeast passes None = (n : ℕ) → passes n ≡ false
IsLeast passes (Some n) = (passes n ≡ true) × ((m : ℕ) → m < n → passes m ≡ false)

-- each level marks the words of the one below that have a mark, and has room for them
pub record AreLevels (bits blocks groups : List ℕ) : Type 0 where
  pub in_bits : (k : ℕ) → is_marked blocks k ≡ is_some bits k
  pub in_blocks : (k : ℕ) → is_marked groups k ≡ is_some blocks k
  pub room : length bits ≤ 64 * length blocks
  pub more : length blocks ≤ 64 * length groups
  pub few : length bits ≤ 2 ^ 26
  pub few_blocks : length blocks ≤ 2 ^ 26
  pub few_groups : length groups ≤ 2 ^ 26
