-- What a check-in makes of the journal, and what ends the run, by what it answers.
use Rattle.std.specs.Prelude.{ℕ, Option, None, Some, List, [], ◌∷◌, ◌++◌}
use Rattle.ink_worlds.specs.State.{Answer, Kept, Moved, Waits, Panics, Full, Over, Wrong}
use Rattle.ink_worlds.specs.declared.halt.Halt.{Halt}
use Rattle.ink_worlds.specs.declared.halt.Halt.TheVariants.{Panicked, Events, Local}

-- the entries after an answer: one more of the process where its action was made
abbrev pub entries_by : Answer → ℕ → List ℕ → List ℕ
entries_by Moved process journal = journal ++ process ∷ []
entries_by Panics process journal = journal ++ process ∷ []
entries_by Kept process journal = journal
entries_by Waits process journal = journal
entries_by Full process journal = journal
entries_by (Over steps) process journal = journal
entries_by Wrong process journal = journal

-- what ended a run that went on before
abbrev pub halt_after : Answer → ℕ → Option Halt
halt_after Panics process = Some (Panicked process)
halt_after Full process = Some (Events process)
halt_after (Over steps) process = Some (Local process steps)
halt_after Kept process = None
halt_after Moved process = None
halt_after Waits process = None
halt_after Wrong process = None
