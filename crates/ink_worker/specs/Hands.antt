-- What a worker has in its hands, and what it does to a journal.
use Rattle.std.specs.Prelude.{◌≡◌, ℕ, ◌+◌, cond, eqb, List, [], ◌∷◌, ◌++◌}
use Rattle.ink_leasing.specs.Leases.{Lease, Named, times}
use Rattle.ink_worker.specs.declared.held.Held.{Held}

-- how often this process is in hand
abbrev pub count_of : {W : Type 0} → ℕ → List (Held W) → ℕ
count_of p [] = 0
count_of p (held ∷ hand) = cond (eqb held.process p) 1 0 + count_of p hand

-- each process in hand may come home with what it came to
abbrev pub AreRun : {W : Type 0} → (ℕ → W → Type 0) → List (Held W) → Type 0
AreRun is_run [] = Unit {0}
AreRun is_run (held ∷ hand) = is_run held.process held.work × AreRun is_run hand

-- what is in hand is what is leased, and each process of it may come home
pub record Carries {W : Type 0} (lease : Lease) (is_run : ℕ → W → Type 0) (hand : List (Held W)) : Type 0 where
  pub same : (p : ℕ) → count_of p hand ≡ times p lease
  pub run : AreRun is_run hand

-- a journal goes on, and each new entry is of a leased process
pub record GoesOn (lease : Lease) (old new : List ℕ) : Type 0 where
  pub more : List ℕ
  pub longer : new ≡ old ++ more
  pub named : Named lease more

-- one journal begins another
pub record Begins (old new : List ℕ) : Type 0 where
  pub more : List ℕ
  pub longer : new ≡ old ++ more
