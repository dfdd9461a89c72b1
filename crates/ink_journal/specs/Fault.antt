-- What a reader that gives no journal tells.
use Rattle.std.specs.Prelude.{ℕ, Result, Ok, Err}
use Rattle.ink_journal.specs.declared.read.JournalFault.{JournalFault}
use Rattle.ink_journal.specs.declared.read.JournalFault.TheVariants as fault

-- where the bytes are bad, this holds of how many are right
abbrev pub IfBad : {A : Type 0} → Result A JournalFault → (ℕ → Type 0) → Type 0
IfBad (Ok x) Told = Unit {0}
IfBad (Err (fault.Bad right)) Told = Told right
IfBad (Err fault.OutOfMemory) Told = Unit {0}
