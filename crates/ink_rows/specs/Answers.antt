-- What the clauses of this crate say of an answer.
use Rattle.std.specs.Prelude.{◌≡◌, Result, Ok, Err}
use Rattle.ink_code.specs.Rows.{Computation, computes, raises}
use Rattle.ink_rows.specs.declared.computed.Computed.{Computed}
use Rattle.ink_rows.specs.declared.computed.Computed.TheVariants as c
use Rattle.ink_rows.specs.declared.computed.RowFault.{RowFault}
use Rattle.ink_rows.specs.declared.computed.RowFault.TheVariants as fault

-- the answer is what the definition says: the same value, the text of the same panic, or wrong in the same way; where there
-- was no memory, nothing is known
abbrev pub Answers : Result Computed RowFault → Computation → Type 0
Answers (Ok (c.Gives value)) told = told ≡ computes value
Answers (Ok (c.Raises text)) told = told ≡ raises text
Answers (Err (fault.Wrong why)) told = told ≡ Err why
Answers (Err fault.OutOfMemory) told = Unit {0}

-- it isn't that there was no memory
abbrev pub TakesNoMemory : Result Computed RowFault → Type 0
TakesNoMemory (Ok computed) = Unit {0}
TakesNoMemory (Err (fault.Wrong why)) = Unit {0}
TakesNoMemory (Err fault.OutOfMemory) = ⊥
