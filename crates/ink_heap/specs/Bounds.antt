-- Up to where a heap counts.
use Rattle.std.specs.Prelude.{ℕ, ◌^◌}

-- no more borrows of an object are counted
abbrev pub most_borrows : ℕ
most_borrows = 2 ^ 62
