-- A journal as the bytes of a file.
use Rattle.std.specs.Prelude.{◌≡◌, ℕ, ◌+◌, ◌<◌, ◌≤◌, ◌^◌, List, [], ◌∷◌, ◌++◌, length, take}
use Rattle.std.specs.Int.{to_be_bytes, w32}
use Rattle.std.specs.List.{AllByRecursion}

-- the mark at the front of each such file, `INKJ`, and the number of the format, 1
abbrev pub front : List ℕ
front = 73 ∷ 78 ∷ 75 ∷ 74 ∷ 1 ∷ []

-- a number in four bytes, the most significant first
abbrev pub word : ℕ → List ℕ
word n = to_be_bytes w32 n

-- the words of numbers, one behind the other
abbrev pub words : List ℕ → List ℕ
words [] = []
words (n ∷ ns) = word n ++ words ns

-- the count of entries, and the entries
abbrev pub counted : List ℕ → List ℕ
counted entries = word (length entries) ++ words entries

-- the file of a journal with these entries
abbrev pub file : List ℕ → List ℕ
file entries = front ++ counted entries

-- a process has a number from 1 on
abbrev pub IsProcess : ℕ → Type 0
IsProcess n = (1 ≤ n) × (n < 2 ^ 32)

-- the entries may be those of a run of at most so many events
abbrev pub AreEvents : ℕ → List ℕ → Type 0
AreEvents most entries = (length entries ≤ most) × AllByRecursion IsProcess entries

-- the bytes are the file of these entries
abbrev pub IsFile : ℕ → List ℕ → List ℕ → Type 0
IsFile most bytes entries = AreEvents most entries × (bytes ≡ file entries)

-- the bytes begin the file of some entries
abbrev pub Begins : ℕ → List ℕ → Type 0
Begins most bytes = (more entries : List ℕ) × IsFile most (bytes ++ more) entries

-- The first `right` bytes begin a file, and one more of them don't; where there is no further byte, bytes are missing.
pub record Leaves (most : ℕ) (bytes : List ℕ) (right : ℕ) : Type 0 where
  pub within : right ≤ length bytes
  pub before : Begins most (take right bytes)
  pub wrong : right < length bytes → Begins most (take (right + 1) bytes) → ⊥
  pub missing : right ≡ length bytes → (entries : List ℕ) → IsFile most bytes entries → ⊥
