-- What a contract sees of a heap: its objects, and for how many more there is room.
use Rattle.std.specs.Prelude.{ℕ}
use Rattle.ink_base.specs.Objects.{Objects}

pub record HeapView : Type 0 where
  pub objects : Objects
  pub spare : ℕ
