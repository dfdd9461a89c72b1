-- What is asked of statuses.
use Rattle.std.specs.Prelude.{◌≡◌, ℕ, Bool, true, false, Option, None, Some, List}
use Rattle.std.specs.List.{slice_get}
use Rattle.ink_base.specs.Numbered.{set_numbered}
use Rattle.ink_marks.specs.Marks.{is_marked}
use Rattle.ink_worlds.specs.State.{woken_from_get}
use Rattle.ink_worlds.specs.declared.status.Status.{Status}
use Rattle.ink_worlds.specs.declared.status.Status.TheVariants.{Ready, Out, Idle, Held, Stopped}

abbrev pub is_ready : Status → Bool
is_ready Ready = true
is_ready (Out seat ran) = false
is_ready Idle = false
is_ready (Held future) = false
is_ready Stopped = false

abbrev pub is_out : Status → Bool
is_out Ready = false
is_out (Out seat ran) = true
is_out Idle = false
is_out (Held future) = false
is_out Stopped = false

abbrev pub is_held : Status → Bool
is_held Ready = false
is_held (Out seat ran) = false
is_held Idle = false
is_held (Held future) = true
is_held Stopped = false

abbrev pub is_stopped : Status → Bool
is_stopped Ready = false
is_stopped (Out seat ran) = false
is_stopped Idle = false
is_stopped (Held future) = false
is_stopped Stopped = true

-- the statuses after a future was set or broken, of which one process may have heard
abbrev pub woken_for : ℕ → Option Status → List Status → ℕ → List Status
woken_for future None statuses process = statuses
woken_for future (Some status) statuses process = set_numbered statuses process (woken_from_get future status)

abbrev pub passes_at : (Status → Bool) → Option Status → Bool
passes_at passes None = false
passes_at passes (Some status) = passes status

-- the places of those that pass are marked, and no others
abbrev pub Shows : (Status → Bool) → List ℕ → List Status → Type 0
Shows passes marks statuses = (n : ℕ) → is_marked marks n ≡ passes_at passes (slice_get statuses n)
