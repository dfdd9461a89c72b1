-- What bytes are UTF-8, by the bytes themselves.
use Rattle.std.specs.Prelude.{◌≡◌, ◌≢◌, ℕ, ◌<◌, ◌⊎◌, List, [], ◌∷◌, ◌++◌, length, take, drop}
use Rattle.std.specs.Int.{IsInRange}
use Rattle.std.specs.List.{AllByRecursion, concat}

-- a byte that goes on with a sequence
abbrev pub IsLater : ℕ → Type 0
IsLater byte = IsInRange 0x80 0xBF byte

-- the first two bytes of a sequence of three: neither too small for three bytes nor a surrogate
abbrev pub BeginsThree : ℕ → ℕ → Type 0
BeginsThree first second =
    ((first ≡ 0xE0) × IsInRange 0xA0 0xBF second)
    ⊎ (IsInRange 0xE1 0xEC first × IsLater second)
    ⊎ ((first ≡ 0xED) × IsInRange 0x80 0x9F second)
    ⊎ (IsInRange 0xEE 0xEF first × IsLater second)

-- the first two bytes of a sequence of four: neither too small for four bytes nor past the last character
abbrev pub BeginsFour : ℕ → ℕ → Type 0
BeginsFour first second =
    ((first ≡ 0xF0) × IsInRange 0x90 0xBF second)
    ⊎ (IsInRange 0xF1 0xF3 first × IsLater second)
    ⊎ ((first ≡ 0xF4) × IsInRange 0x80 0x8F second)

-- the bytes are one well-formed sequence
abbrev pub IsSequence : List ℕ → Type 0
IsSequence [] = ⊥
IsSequence (a ∷ []) = a < 0x80
IsSequence (a ∷ b ∷ []) = IsInRange 0xC2 0xDF a × IsLater b
IsSequence (a ∷ b ∷ c ∷ []) = BeginsThree a b × IsLater c
IsSequence (a ∷ b ∷ c ∷ d ∷ []) = BeginsFour a b × IsLater c × IsLater d
IsSequence (a ∷ b ∷ c ∷ d ∷ e ∷ more) = ⊥

-- the bytes are well-formed sequences, one behind the other
abbrev pub Utf8 : List ℕ → Type 0
Utf8 bytes = (sequences : List (List ℕ)) × AllByRecursion IsSequence sequences × (concat sequences ≡ bytes)

-- no well-formed sequence stands at the front
abbrev pub BeginsNoSequence : List ℕ → Type 0
BeginsNoSequence bytes = (sequence rest : List ℕ) → IsSequence sequence → bytes ≢ sequence ++ rest

-- the first byte at which the bytes stop being well-formed
pub record StopsAt (bytes : List ℕ) (byte : ℕ) : Type 0 where
  pub inside : byte < length bytes
  pub before : Utf8 (take byte bytes)
  pub broken : BeginsNoSequence (drop byte bytes)
  pub longest : (more : ℕ) → byte < more → ¬ (Utf8 (take more bytes))
