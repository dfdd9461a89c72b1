-- What the clauses of this crate say of an answer.
use Rattle.std.specs.Prelude.{◌≡◌, ℕ, Option, None, Some, Result, Ok, Err, List}
use Rattle.ink_base.specs.declared.value.Value.{Value}
use Rattle.ink_code.specs.declared.wrong.Wrong.{Wrong}
use Rattle.ink_code.specs.Process.{Process}
use Rattle.ink_code.specs.Rows.{Gives, Raises, RowOutcome}
use Rattle.ink_proc.specs.declared.process.Proc.{Proc}
use Rattle.ink_proc.specs.State.{state_of}
use Rattle.ink_rows.specs.declared.computed.Computed.{Computed}
use Rattle.ink_rows.specs.declared.computed.Computed.TheVariants as c
use Rattle.ink_rows.specs.declared.computed.RowFault.{RowFault}
use Rattle.ink_rows.specs.declared.computed.RowFault.TheVariants as fault

-- the text of the panic that a row comes to
abbrev pub raised : RowOutcome → Option (List ℕ)
raised (Ok (Raises text, q)) = Some text
raised (Ok (Gives value, q)) = None
raised (Err why) = None

-- the answer is what the definition says, with the process and the values before and after: a value comes with the process
-- that the definition leaves, and after a panic or without memory all is as before
abbrev pub RowAnswers : RowOutcome → Result Computed RowFault → Process → Process → List Value → List Value → Type 0
RowAnswers outcome (Ok (c.Gives value)) old new had has = outcome ≡ Ok (Gives value, new)
RowAnswers outcome (Ok (c.Raises text)) old new had has = (raised outcome ≡ Some text) × (new ≡ old) × (has ≡ had)
RowAnswers outcome (Err (fault.Wrong why)) old new had has = outcome ≡ Err why
RowAnswers outcome (Err fault.OutOfMemory) old new had has = (new ≡ old) × (has ≡ had)

-- that, of a row on some values, to which they were moved out of that process
abbrev pub Does : (List Value → Process → RowOutcome) → Result Computed RowFault → Proc → Proc → List Value → List Value → Type 0
Does row result old new had has = RowAnswers (row had (state_of old)) result (state_of old) (state_of new) had has

-- the row gives that value and leaves the process so, or is wrong in that way
abbrev pub Comes : RowOutcome → Result Value Wrong → Process → Type 0
Comes outcome (Ok value) new = outcome ≡ Ok (Gives value, new)
Comes outcome (Err why) new = outcome ≡ Err why

-- the answer is what was found, or in which way the row is wrong; it can be that there is no memory
abbrev pub Finds : {A : Type 0} → Result A Wrong → Result A RowFault → Type 0
Finds found (Ok value) = found ≡ Ok value
Finds found (Err (fault.Wrong why)) = found ≡ Err why
Finds found (Err fault.OutOfMemory) = Unit {0}
