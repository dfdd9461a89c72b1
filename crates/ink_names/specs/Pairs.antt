-- Numbers by pairs of numbers.
use Rattle.std.specs.Prelude.{◌≡◌, ℕ, Bool, ◌&&◌, ◌==◌, false, Option}
use Rattle.indexmap.specs.IndexMap.{get}
use Rattle.ink_names.specs.declared.pairs.Pairs.{Pairs}

abbrev pub same_pair : ℕ × ℕ → ℕ × ℕ → Bool
same_pair x y = x.0 == y.0 && x.1 == y.1

-- the number of a pair, if it has one
abbrev pub number_of : Pairs → ℕ → ℕ → Option ℕ
number_of pairs a b = get same_pair pairs.numbers (a, b)

-- each pair keeps its number, or that it has none
abbrev pub Same : Pairs → Pairs → Type 0
Same old new = (a b : ℕ) → number_of new a b ≡ number_of old a b

-- each pair but this one
abbrev pub SameBut : ℕ → ℕ → Pairs → Pairs → Type 0
SameBut first second old new = (a b : ℕ) → same_pair (first, second) (a, b) ≡ false → number_of new a b ≡ number_of old a b
