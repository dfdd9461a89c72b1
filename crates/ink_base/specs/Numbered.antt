-- Processes, mailboxes and futures are numbered from 1, in the order in which they are made.
use Rattle.std.specs.Prelude.{ℕ, ◌-◌, ◌==◌, if◌then◌else◌, Option, None, List, slice_get, slice_set}

-- the one of that number, where there is one
abbrev pub numbered : {X : Type 0} → List X → ℕ → Option X
numbered xs number = if number == 0 then None else slice_get xs (number - 1)

-- the one of that number replaced, and nothing else; all as before where there is none
abbrev pub set_numbered : {X : Type 0} → List X → ℕ → X → List X
set_numbered xs number x = if number == 0 then xs else slice_set xs (number - 1) x
