-- Words on leases.
use Rattle.std.specs.Prelude.{◌≡◌, ◌≢◌, ◌⊎◌, ℕ, ◌+◌, ◌≤◌, cond, eqb, List, [], ◌∷◌, ◌++◌}

-- the processes that a seat leases, each with how many steps it had made
abbrev pub Lease : Type 0
Lease = List (ℕ × ℕ)

-- one of these leases is of this process
abbrev pub Has : ℕ → Lease → Type 0
Has p [] = ⊥
Has p (l ∷ ls) = (l.0 ≡ p) ⊎ Has p ls

-- how often this process stands among the leases
abbrev pub times : ℕ → Lease → ℕ
times p [] = 0
times p (l ∷ ls) = cond (eqb l.0 p) 1 0 + times p ls

-- no process is leased twice, neither to two seats nor twice to one
abbrev pub AreApart : (ℕ → Lease) → Type 0
AreApart lease = ((a b p : ℕ) → Has p (lease a) → Has p (lease b) → a ≡ b) × ((seat p : ℕ) → times p (lease seat) ≤ 1)

-- none of these entries is of this process
abbrev pub Without : ℕ → List ℕ → Type 0
Without p [] = Unit {0}
Without p (x ∷ xs) = (x ≢ p) × Without p xs

-- none of these entries is of a leased process
abbrev pub Spares : Lease → List ℕ → Type 0
Spares [] xs = Unit {0}
Spares (l ∷ ls) xs = Without l.0 xs × Spares ls xs

-- each of these entries is of a leased process
abbrev pub Named : Lease → List ℕ → Type 0
Named ls [] = Unit {0}
Named ls (e ∷ es) = Has e ls × Named ls es

-- one journal is another, or that and one entry of this process
abbrev pub OneMore : ℕ → List ℕ → List ℕ → Type 0
OneMore p old new = (new ≡ old) ⊎ (new ≡ old ++ p ∷ [])

-- this process is leased too, and the other leases are as they were
pub record Gains (p : ℕ) (old new : Lease) : Type 0 where
  pub front : Lease
  pub back : Lease
  pub ran : ℕ
  pub before : old ≡ front ++ back
  pub after : new ≡ front ++ (p, ran) ∷ back

-- this process is leased no more, and the other leases are as they were
abbrev pub Loses : ℕ → Lease → Lease → Type 0
Loses p old new = Gains p new old
