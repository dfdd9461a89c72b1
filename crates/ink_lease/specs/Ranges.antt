-- Ranges of seat numbers.
use Rattle.std.specs.Prelude.{◌≡◌, ◌≢◌, ◌⊎◌, ℕ, ◌<◌, ◌≤◌, List, []}
use mathlib.Core.Option as maybe
use lib.ListN.{get_elem?}
use Rattle.ink_leasing.specs.Leases.{Lease}

-- the first number and the last
abbrev pub Range : Type 0
Range = ℕ × ℕ

-- two ranges that have numbers have none in common
abbrev pub Clear : Range → Range → Type 0
Clear a b = a.0 ≤ a.1 → b.0 ≤ b.1 → (a.1 < b.0) ⊎ (b.1 < a.0)

-- any two places of the list
abbrev pub Pairs : {A : Type 0} → (A → A → Type 0) → List A → Type 0
Pairs {A} P l = (i j : ℕ) (a b : A) → get_elem? l i ≡ maybe.some a → get_elem? l j ≡ maybe.some b → i ≢ j → P a b

-- only the first number of a range leases
abbrev pub FirstOnly : (ℕ → Lease) → List Range → Type 0
FirstOnly lease rs = (k : ℕ) → lease k ≢ [] → (j : ℕ) × (r : Range) × (get_elem? rs j ≡ maybe.some r) × (r.0 ≤ r.1) × (r.0 ≡ k)
