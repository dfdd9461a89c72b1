-- What is open at a place.
use Rattle.std.specs.Prelude.{ℕ, List, [], ◌∷◌, reverse}
use Rattle.ink_tokens.specs.declared.reading.Level.{Level}
use Rattle.ink_tokens.specs.declared.reading.Level.TheVariants.{Outside, Text, Embedded, Braces}
use Rattle.ink_tokens.specs.declared.reading.Change.{Change}
use Rattle.ink_tokens.specs.declared.reading.Change.TheVariants.{Stay, Enter, Leave}
use Rattle.ink_tokens.specs.declared.nesting.Nesting.{Nesting}

-- the level, those around it from the inside out, and where the last text began that stands in no other
pub record Nest : Type 0 where
  pub level : Level
  pub outer : List Level
  pub opened : ℕ

-- a nesting as it is seen here
abbrev pub nest_of : Nesting → Nest
nest_of nesting = record { level = nesting.level; outer = reverse nesting.outer.items; opened = nesting.opened }

-- at the first byte nothing is open
abbrev pub first_nest : Nest
first_nest = record { level = Outside; outer = []; opened = 0 }

-- a text that begins in no other is the last such text
unfoldable pub opened_behind : Level → ℕ → ℕ → ℕ
opened_behind Outside opened at = at
opened_behind (Text quote) opened at = opened
opened_behind Embedded opened at = opened
opened_behind Braces opened at = opened

-- one level further in
abbrev pub entered : Nest → Level → ℕ → Nest
entered nest inner at =
    record { level = inner; outer = nest.level ∷ nest.outer; opened = opened_behind nest.level nest.opened at }

-- one level further out
abbrev pub left : List Level → ℕ → Nest
left [] opened = record { level = Outside; outer = []; opened = opened }
left (level ∷ outer) opened = record { level = level; outer = outer; opened = opened }

-- behind a token at a place
unfoldable pub changed : Nest → Change → ℕ → Nest
changed nest Stay at = nest
changed nest (Enter inner) at = entered nest inner at
changed nest Leave at = left nest.outer nest.opened
