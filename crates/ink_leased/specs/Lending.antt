-- Which processes a seat leases, as their statuses tell.
use Rattle.std.specs.Prelude.{ℕ, suc, ◌==◌, if◌then◌else◌, List, [], ◌∷◌, ◌++◌}
use Rattle.ink_worlds.specs.declared.status.Status.{Status}
use Rattle.ink_worlds.specs.declared.status.Status.TheVariants.{Ready, Out, Idle, Held, Stopped}

-- a process of this number, where the seat leases it, with how many steps it had made
abbrev pub lease_at : ℕ → Status → ℕ → List (ℕ × ℕ)
lease_at process Ready seat = []
lease_at process (Out other ran) seat = if other == seat then (process, ran) ∷ [] else []
lease_at process Idle seat = []
lease_at process (Held future) seat = []
lease_at process Stopped seat = []

-- of processes that are numbered from here on, those that the seat leases
abbrev pub lease_from : ℕ → List Status → ℕ → List (ℕ × ℕ)
lease_from number [] seat = []
lease_from number (status ∷ statuses) seat = lease_at number status seat ++ lease_from (suc number) statuses seat

-- of all processes, those that the seat leases
abbrev pub lease_of : List Status → ℕ → List (ℕ × ℕ)
lease_of statuses seat = lease_from 1 statuses seat
