-- What steps within the innermost frame make of a process, whatever else it holds.
use Rattle.std.specs.Prelude.{◌≡◌, ℕ, ◌+◌, ◌<◌, ◌≤◌, Some, Ok, List, [], ◌∷◌, slice_get}
use Rattle.ink_base.specs.declared.limits.Limit.TheVariants as limit
use Rattle.ink_base.specs.declared.value.Value.{Value}
use Rattle.ink_base.specs.Limits.{limit_of}
use Rattle.ink_code.specs.declared.code.Code.{Code}
use Rattle.ink_code.specs.declared.frame.Frame.{Frame}
use Rattle.ink_code.specs.declared.method.Method.{Method}
use Rattle.ink_code.specs.Machine.{Outcome, Went}
use Rattle.ink_code.specs.Prims.{row_step}
use Rattle.ink_code.specs.Process.{Process, held}
use Rattle.ink_code.specs.Rows.{Gives}
use Rattle.ink_code.specs.Slice.{slice_of}
use Rattle.ink_code.specs.Step.{code_step}

-- a process without drops that wait, with these frames and that many steps behind it
abbrev pub with_frames : Process → ℕ → List Frame → Process
with_frames p ran frames = record p { frames = frames; pending = []; ran = ran }

-- whatever process has these registers in its innermost frame: the step is made, and leaves the frame with those, at that
-- place
abbrev pub Makes : (Process → Outcome) → List Value → ℕ → List Value → Type 0
Makes definition old next new =
    (p : Process) (frame : Frame) (outer : List Frame) (ran : ℕ)
    → definition (with_frames p ran (record frame { registers = old } ∷ outer))
    ≡ Ok (Went, with_frames p (ran + 1) (record frame { place = next; registers = new } ∷ outer))

-- whatever process: the row gives the value, and leaves the process as it is
abbrev pub RowGives : ℕ → List Value → Value → Type 0
RowGives row values value =
    (code : Code) (limits : List ℕ) (p : Process) → row_step code limits row values p ≡ Ok (Gives value, p)

-- two values that are there: the row gives the third of them
pub record RowDone (row : ℕ) (one other given : Value) : Type 0 where
  pub first : held (Some one) ≡ Ok one
  pub second : held (Some other) ≡ Ok other
  pub gives : RowGives row (one ∷ other ∷ []) given

-- a slice of so many steps and a rest is the rest from there
abbrev pub Leads : Code → List ℕ → ℕ → Process → Process → Type 0
Leads code limits made old new = (rest : ℕ) → slice_of (made + rest) code limits old ≡ slice_of rest code limits new

-- whatever process has these frames: where the limit of steps lets it, a step is made and leaves those
abbrev pub StepsTo : Code → List ℕ → List Frame → List Frame → Type 0
StepsTo code limits old new =
    (p : Process) (ran : ℕ) → ran < limit_of limit.Local limits
    → code_step code limits (with_frames p ran old) ≡ Ok (Went, with_frames p (ran + 1) new)

-- whatever process has these frames: where the limit of steps lets it, so many steps lead to those
abbrev pub Runs : Code → List ℕ → ℕ → List Frame → List Frame → Type 0
Runs code limits made old new =
    (p : Process) (ran : ℕ) → ran + made ≤ limit_of limit.Local limits
    → Leads code limits made (with_frames p ran old) (with_frames p (ran + made) new)

-- a frame of that method is at that place, with these registers
pub record IsAt (code : Code) (frame : Frame) (method : Method) (place : ℕ) (registers : List Value) : Type 0 where
  pub runs : slice_get code.methods frame.method ≡ Some method
  pub at : frame.place ≡ place
  pub holds : frame.registers ≡ registers
