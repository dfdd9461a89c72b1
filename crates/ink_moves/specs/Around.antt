-- Where an expression goes on.
use Rattle.std.specs.Prelude.{ℕ, ◌<◌}
use Rattle.ink_moves.specs.declared.around.Around.{Around}

-- the points at which it goes on are among the first so many
abbrev pub IsAround : ℕ → Around → Type 0
IsAround n around = (around.next < n) × (around.exit < n) × (around.turn < n) × (around.end < n)
