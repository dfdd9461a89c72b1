use Rattle.std.specs.Prelude.{ℕ, List}

-- what a contract sees of a journal: its entries in order, and for how many more it has room
pub record JournalView : Type 0 where
  pub entries : List ℕ
  pub spare : ℕ
