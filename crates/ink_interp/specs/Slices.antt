-- How the answer of a slice tells what the code machine says.
use Rattle.std.specs.Prelude.{◌≡◌, ◌<◌, ℕ, Result, Ok, Err, List}
use Rattle.ink_code.specs.declared.code.Code.{Code}
use Rattle.ink_code.specs.Machine as machine
use Rattle.ink_code.specs.Process.{Process}
use Rattle.ink_code.specs.Slice.{slice_of}
use Rattle.ink_steps.specs.Answers.{told}
use Rattle.ink_steps.specs.declared.stepped.Stepped.{Stepped}
use Rattle.ink_steps.specs.declared.stepped.StepFault.{StepFault}
use Rattle.ink_steps.specs.declared.stepped.StepFault.TheVariants as fault

-- the answer tells what a slice of so many steps came to; without memory fewer of them were made, and all of these went on
abbrev pub AnswersSlice : ℕ → Code → List ℕ → Result Stepped StepFault → Process → Process → Type 0
AnswersSlice most code limits (Ok came) old new = slice_of most code limits old ≡ Ok (told came, new)
AnswersSlice most code limits (Err (fault.Wrong why)) old new = slice_of most code limits old ≡ Err why
AnswersSlice most code limits (Err fault.OutOfMemory) old new =
    (made : ℕ) × (made < most) × (slice_of made code limits old ≡ Ok (machine.Went, new))
