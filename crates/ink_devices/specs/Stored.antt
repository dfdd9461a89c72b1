use Rattle.std.specs.Prelude.{◌≡◌, ◌≢◌, ℕ, zero, suc, List, [], ◌∷◌, Option, None, Some, if◌then◌else◌, Vec}
use Rattle.std.specs.Str.{bytes_eq}
use Rattle.std.specs.declared.alloc.Global.{Global}

-- a file that is kept: its name and its bytes
abbrev pub File : Type 0
File = List ℕ × Vec ℕ Global

-- the bytes of the first file of this name
abbrev pub bytes_under : List File → List ℕ → Option (List ℕ)
bytes_under [] name = None
bytes_under (file ∷ files) name = if bytes_eq file.0 name then Some file.1.items else bytes_under files name

-- no name stands twice
abbrev pub AreApart : List File → Type 0
AreApart [] = Unit {0}
AreApart (file ∷ files) = (bytes_under files file.0 ≡ None) × AreApart files

-- the first file of this name stands at this index
abbrev pub IsAt : List File → List ℕ → ℕ → Type 0
IsAt [] name index = ⊥
IsAt (file ∷ files) name zero = file.0 ≡ name
IsAt (file ∷ files) name (suc index) = (file.0 ≢ name) × IsAt files name index

-- what a write of these bytes under this name makes of the files
abbrev pub PutsUnder : List File → List File → List ℕ → List ℕ → Type 0
PutsUnder old new name bytes =
    (bytes_under new name ≡ Some bytes) × ((other : List ℕ) → other ≢ name → bytes_under new other ≡ bytes_under old other)
