-- How a step tells what a row came to.
use Rattle.std.specs.Prelude.{◌≡◌, ℕ, Result, Ok, Err, List}
use Rattle.ink_base.specs.declared.value.Value.{Value}
use Rattle.ink_code.specs.declared.frame.Frame.{Frame}
use Rattle.ink_code.specs.Machine.{put, settles}
use Rattle.ink_code.specs.Process.{Process, taken_out}
use Rattle.ink_rows.specs.declared.computed.Computed.{Computed}
use Rattle.ink_rows.specs.declared.computed.Computed.TheVariants as c
use Rattle.ink_rows.specs.declared.computed.RowFault.{RowFault}
use Rattle.ink_rows.specs.declared.computed.RowFault.TheVariants as row
use Rattle.ink_steps.specs.Answers.{told}
use Rattle.ink_steps.specs.declared.stepped.Stepped.{Stepped}
use Rattle.ink_steps.specs.declared.stepped.Stepped.TheVariants as stepped
use Rattle.ink_steps.specs.declared.stepped.StepFault.{StepFault}
use Rattle.ink_steps.specs.declared.stepped.StepFault.TheVariants as fault

-- the process but for its frames is the same, and these are as they were before the values were moved out
pub record GoesBack (old new : Process) (operands : List ℕ) (values : List Value) : Type 0 where
  pub frames : (before : List Frame) → taken_out operands before ≡ Ok (values, old.frames) → new.frames ≡ before
  pub others : new ≡ record old { frames = new.frames }

-- a value goes to a register; after a panic and without memory the values go back to theirs
abbrev pub Tells : Result Computed RowFault → Result Stepped StepFault → ℕ → ℕ → Process → Process → List ℕ → List Value → Type 0
Tells (Ok (c.Gives value)) came next to old new operands values =
    (came ≡ Ok stepped.Went) × (settles next old.pending (put to value old) ≡ Ok (told stepped.Went, new))
Tells (Ok (c.Raises text)) came next to old new operands values =
    (came ≡ Ok (stepped.Panics text)) × GoesBack old new operands values
Tells (Err (row.Wrong why)) came next to old new operands values = came ≡ Err (fault.Wrong why)
Tells (Err row.OutOfMemory) came next to old new operands values =
    (came ≡ Err fault.OutOfMemory) × GoesBack old new operands values
