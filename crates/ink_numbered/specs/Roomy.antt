-- What a contract sees of a list with room taken beforehand.
use Rattle.std.specs.Prelude.{ℕ, List}

-- the items in order, and how many more can be added without memory
pub record Roomy (T : Type 0) : Type 0 where
  pub items : List T
  pub spare : ℕ
