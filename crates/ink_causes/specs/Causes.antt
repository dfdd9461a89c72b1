-- The status and the text of each cause.
use Rattle.std.specs.Prelude.{◌≡◌, ℕ, ◌⊎◌, List, [], ◌∷◌, ◌++◌, codes}
use Rattle.std.specs.Fmt.{decimal}
use Rattle.ink_base.specs.Refusal.{refusal_text}
use Rattle.ink_causes.specs.declared.cause.Cause.{Cause}
use Rattle.ink_causes.specs.declared.cause.Cause.TheVariants.{Quiet, Accepted, Written, Refused, Usage, ReadFault, WriteFault, OutOfMemory, Waiting, EventLimit, LocalLimit, RoundLimit, JournalEnds, BadJournal, BadEntry, Panicked, Wrong, Unbuilt}

-- the exit status of each cause
abbrev pub status_of : Cause → ℕ
status_of Quiet = 0
status_of Accepted = 0
status_of Written = 0
status_of (Refused refusal) = 1
status_of (Usage number) = 2
status_of ReadFault = 3
status_of WriteFault = 4
status_of OutOfMemory = 5
status_of (Waiting process) = 6
status_of (EventLimit process) = 7
status_of (LocalLimit process steps) = 7
status_of (RoundLimit rounds) = 7
status_of (JournalEnds process) = 7
status_of (BadJournal right) = 8
status_of (BadEntry entry) = 8
status_of (Wrong process) = 9
status_of Unbuilt = 10
status_of (Panicked process) = 101

-- what is told of each cause that comes before a run, with the name of the file that was to be read
abbrev pub early_text : Cause → List ℕ → List ℕ
early_text (Refused refusal) name = refusal_text refusal ++ 10 ∷ []
early_text (Usage number) name = codes "usage error at word " ++ decimal number ++ 10 ∷ []
early_text ReadFault name = codes "cannot read " ++ name ++ 10 ∷ []
early_text WriteFault name = codes "write fault\n"
early_text OutOfMemory name = codes "out of memory\n"
early_text (BadJournal right) name = codes "bad journal at byte " ++ decimal right ++ 10 ∷ []
early_text Unbuilt name = codes "not built\n"
early_text cause name = []

-- what is told of each cause: of a panic, its report
abbrev pub cause_text : Cause → List ℕ → List ℕ → List ℕ
cause_text (Waiting process) name report = codes "waiting: process " ++ decimal process ++ codes " waits for a future\n"
cause_text (EventLimit process) name report = codes "run limit: events\n"
cause_text (LocalLimit process steps) name report = codes "run limit: local steps of process " ++ decimal process ++ 10 ∷ []
cause_text (RoundLimit rounds) name report = codes "run limit: rounds\n"
cause_text (JournalEnds process) name report = codes "journal ends\n"
cause_text (BadEntry entry) name report = codes "bad journal entry " ++ decimal entry ++ 10 ∷ []
cause_text (Panicked process) name report = report
cause_text (Wrong process) name report = codes "wrong operand in process " ++ decimal process ++ 10 ∷ []
cause_text cause name report = early_text cause name

-- the cause is a device's fault, or want of memory
abbrev pub IsFault : Cause → Type 0
IsFault cause = (cause ≡ ReadFault) ⊎ (cause ≡ WriteFault) ⊎ (cause ≡ OutOfMemory)
