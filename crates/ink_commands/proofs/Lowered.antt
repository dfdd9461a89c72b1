-- The code that is made of a module that is accepted.
use Rattle.std.proofs.Common.{List, ℕ, Result, Ok, Err, IfOk, IfErr}
use Rattle.ink_causes.specs.declared.cause.Cause.{Cause}
use Rattle.ink_causes.specs.declared.cause.Cause.TheVariants.{Quiet, Accepted, Written, Refused, Usage, ReadFault, WriteFault, OutOfMemory, Waiting, EventLimit, LocalLimit, RoundLimit, JournalEnds, BadJournal, BadEntry, Panicked, Wrong, Unbuilt}
use Rattle.ink_code.specs.declared.code.Code.{Code}
use Rattle.ink_ranges.specs.Ranges.{IsWithin}
use Rattle.ink_commands.specs.Sources.{HasNoCode, IsLowerFault, MakesCode}
use Rattle.ink_commands.specs.Verdict.{IsOnlyVerdict, Further}

-- why there is none
no_code : (limits bytes : List ℕ) (cause : Cause) → IsOnlyVerdict limits bytes Further → IsLowerFault cause → HasNoCode limits cause bytes
no_code limits bytes Unbuilt accepted fault = accepted
no_code limits bytes OutOfMemory accepted fault = tt
no_code limits bytes Quiet accepted fault = absurd fault
no_code limits bytes Accepted accepted fault = absurd fault
no_code limits bytes Written accepted fault = absurd fault
no_code limits bytes (Refused refusal) accepted fault = absurd fault
no_code limits bytes (Usage number) accepted fault = absurd fault
no_code limits bytes ReadFault accepted fault = absurd fault
no_code limits bytes WriteFault accepted fault = absurd fault
no_code limits bytes (Waiting process) accepted fault = absurd fault
no_code limits bytes (EventLimit process) accepted fault = absurd fault
no_code limits bytes (LocalLimit process steps) accepted fault = absurd fault
no_code limits bytes (RoundLimit rounds) accepted fault = absurd fault
no_code limits bytes (JournalEnds process) accepted fault = absurd fault
no_code limits bytes (BadJournal right) accepted fault = absurd fault
no_code limits bytes (BadEntry entry) accepted fault = absurd fault
no_code limits bytes (Panicked process) accepted fault = absurd fault
no_code limits bytes (Wrong process) accepted fault = absurd fault

pub made_code : (limits bytes : List ℕ) (result : Result Code Cause) → IsOnlyVerdict limits bytes Further → IfOk result IsWithin
    → IfErr result IsLowerFault → MakesCode limits bytes result
made_code limits bytes (Ok code) accepted within fault = (accepted, within)
made_code limits bytes (Err cause) accepted within fault = no_code limits bytes cause accepted fault
