-- How steps that touch the frames alone tell what the code machine says.
use Rattle.std.specs.Prelude.{◌≡◌, ℕ, ◌+◌, ◌<◌, ◌≤◌, Bool, true, false, Result, Ok, Err, List}
use Rattle.ink_base.specs.declared.limits.Limit.TheVariants as limit
use Rattle.ink_base.specs.Limits.{limit_of}
use Rattle.ink_code.specs.declared.code.Code.{Code}
use Rattle.ink_code.specs.declared.frame.Frame.{Frame}
use Rattle.ink_code.specs.declared.wrong.Wrong.{Wrong}
use Rattle.ink_code.specs.Process.{Process}
use Rattle.ink_code.specs.Slice.{slice_of}
use Rattle.ink_code.specs.Step.{code_step}
use Rattle.ink_quick.specs.Makes.{Leads, Runs, StepsTo, with_frames}

-- one step is made, or none; or whatever process has the frames, its step is wrong in that way
abbrev pub IsChange : Code → List ℕ → Result Bool Wrong → List Frame → List Frame → Type 0
IsChange code limits (Ok true) old new = StepsTo code limits old new
IsChange code limits (Ok false) old new = new ≡ old
IsChange code limits (Err why) old new =
    (p : Process) (ran : ℕ) → ran < limit_of limit.Local limits → code_step code limits (with_frames p ran old) ≡ Err why

-- so many steps are made, of so many at most; or whatever process has the frames, a slice of these is wrong in that way
abbrev pub IsRun : Code → List ℕ → ℕ → Result ℕ Wrong → List Frame → List Frame → Type 0
IsRun code limits most (Ok made) old new = (made ≤ most) × Runs code limits made old new
IsRun code limits most (Err why) old new =
    (p : Process) (ran rest : ℕ) → ran + most ≤ limit_of limit.Local limits
    → slice_of (most + rest) code limits (with_frames p ran old) ≡ Err why

-- the same of a process
abbrev pub IsQuick : Code → List ℕ → ℕ → Result ℕ Wrong → Process → Process → Type 0
IsQuick code limits most (Ok made) old new = (made ≤ most) × Leads code limits made old new
IsQuick code limits most (Err why) old new = slice_of most code limits old ≡ Err why
