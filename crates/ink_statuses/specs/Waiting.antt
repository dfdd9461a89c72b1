-- Who may wait for which future.
use Rattle.std.specs.Prelude.{◌≡◌, ℕ, Bool, true, false, eqb, Option, None, Some, List}
use Rattle.ink_base.specs.Numbered.{numbered}
use Rattle.ink_statuses.specs.declared.waiters.Waiter.{Waiter}
use Rattle.ink_statuses.specs.declared.waiters.Waiter.TheVariants.{Nobody, One, Several}
use Rattle.ink_worlds.specs.declared.status.Status.{Status}
use Rattle.ink_worlds.specs.declared.status.Status.TheVariants.{Held}

-- whether a process may wait for a future of which this is told, or nothing, as of all behind the last
abbrev pub waits : Option Waiter → Bool → ℕ → Bool
waits None beyond process = beyond
waits (Some Nobody) beyond process = false
waits (Some (One other)) beyond process = eqb process other
waits (Some Several) beyond process = true

abbrev pub may_wait : List Waiter → Bool → ℕ → ℕ → Bool
may_wait table beyond future process = waits (numbered table future) beyond process

-- who waits is noted
abbrev pub AreNoted : List Waiter → Bool → List Status → Type 0
AreNoted table beyond statuses = (process future : ℕ) → numbered statuses process ≡ Some (Held future) → may_wait table beyond future process ≡ true
