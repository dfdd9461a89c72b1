-- How an answer of the interpreter tells an outcome of the code machine.
use Rattle.std.specs.Prelude.{◌≡◌, ℕ, ◌+◌, ◌<◌, ◌^◌, Bool, true, false, Result, Ok, Err, List}
use Rattle.ink_base.specs.Actions.{Action}
use Rattle.ink_base.specs.Actions as action
use Rattle.ink_code.specs.declared.wrong.Wrong.{Wrong}
use Rattle.ink_code.specs.declared.frame.Frame.{Frame}
use Rattle.ink_code.specs.Machine as machine
use Rattle.ink_base.specs.Objects.{Objects}
use Rattle.ink_base.specs.declared.value.Value.{Value}
use Rattle.ink_code.specs.Process.{Process}
use Rattle.ink_code.specs.Trees.{Parcel, Parted}
use Rattle.ink_proc.specs.declared.process.Proc.{Proc}
use Rattle.ink_proc.specs.State.{state_of}
use Rattle.ink_steps.specs.declared.stepped.Request.{Request}
use Rattle.ink_steps.specs.declared.stepped.Request.TheVariants as request
use Rattle.ink_steps.specs.declared.stepped.Stepped.{Stepped}
use Rattle.ink_steps.specs.declared.stepped.Stepped.TheVariants as stepped
use Rattle.ink_steps.specs.declared.stepped.StepFault.{StepFault}
use Rattle.ink_steps.specs.declared.stepped.StepFault.TheVariants as fault

abbrev pub action_of : Request → Action Parcel
action_of request.Take = action.Take
action_of (request.Print text) = action.Print text
action_of (request.Spawn kind fields) = action.Spawn kind fields
action_of (request.Send to method values) = action.Send to method values
action_of request.NewFuture = action.NewFuture
action_of (request.SetFuture future value) = action.SetFuture future value
action_of (request.BreakFuture future) = action.BreakFuture future
action_of (request.GetFuture future) = action.GetFuture future

abbrev pub told : Stepped → machine.Stepped
told stepped.Went = machine.Went
told (stepped.Wants wanted) = machine.Wants (action_of wanted)
told (stepped.Panics text) = machine.Panics text
told (stepped.Spent steps) = machine.Spent steps

-- the answer tells what the step came to, and the process is left as the machine says; without memory it is as before
abbrev pub Answers : machine.Outcome → Result Stepped StepFault → Process → Process → Type 0
Answers outcome (Ok came) old new = outcome ≡ Ok (told came, new)
Answers outcome (Err (fault.Wrong why)) old new = outcome ≡ Err why
Answers outcome (Err fault.OutOfMemory) old new = new ≡ old

-- no process makes as many steps between two actions
abbrev pub most_steps : ℕ
most_steps = 2 ^ 62

-- a process may make one step more
abbrev pub MayStep : Proc → Type 0
MayStep p = p.ran < most_steps

-- the step is the one that is defined so
abbrev pub IsStep : (Process → machine.Outcome) → Result Stepped StepFault → Proc → Proc → Type 0
IsStep definition result old new = Answers (definition (state_of old)) result (state_of old) (state_of new)

-- the step was made and left the process so, or the instruction is wrong in that way
abbrev pub Goes : machine.Outcome → Result (Unit {0}) Wrong → Process → Type 0
Goes outcome (Ok _) new = outcome ≡ Ok (machine.Went, new)
Goes outcome (Err why) new = outcome ≡ Err why

-- the answer is what was found, or in which way the instruction is wrong; it can be that there is no memory
abbrev pub Finds : {A : Type 0} → Result A Wrong → Result A StepFault → Type 0
Finds found (Ok value) = found ≡ Ok value
Finds found (Err (fault.Wrong why)) = found ≡ Err why
Finds found (Err fault.OutOfMemory) = Unit {0}

-- what something is after the call; without memory it is as before
abbrev pub Changes : {A : Type 0} → Result A Wrong → Result (Unit {0}) StepFault → A → A → Type 0
Changes changed (Ok _) old new = changed ≡ Ok new
Changes changed (Err (fault.Wrong why)) old new = changed ≡ Err why
Changes changed (Err fault.OutOfMemory) old new = new ≡ old

-- a panic with that text, or no memory for it
abbrev pub PanicsWith : List ℕ → Result Stepped StepFault → Type 0
PanicsWith text (Ok came) = told came ≡ machine.Panics text
PanicsWith text (Err why) = why ≡ fault.OutOfMemory

-- the parcel has the values and the objects of their tree, and these are left; or one that is owned isn't there
abbrev pub IsCut : Result Parted Wrong → Result Parcel StepFault → List Value → Objects → Type 0
IsCut parted (Ok parcel) values left = (parted ≡ Ok (record { left = left; taken = parcel.objects })) × (parcel.values ≡ values)
IsCut parted (Err (fault.Wrong why)) values left = parted ≡ Err why
IsCut parted (Err fault.OutOfMemory) values left = Unit {0}

-- whatever process has these frames: the step is made and leaves it with those, or the instruction is wrong in that way
abbrev pub EndsFrame : (Process → machine.Outcome) → Result (Unit {0}) Wrong → List Frame → List Frame → Type 0
EndsFrame definition (Ok _) old new =
    (p : Process) → definition (record p { frames = old }) ≡ Ok (machine.Went, record p { frames = new; ran = p.ran + 1 })
EndsFrame definition (Err why) old new = (p : Process) → definition (record p { frames = old }) ≡ Err why

-- the same, or nothing is done
abbrev pub ChangesFrames : (Process → machine.Outcome) → Result Bool Wrong → List Frame → List Frame → Type 0
ChangesFrames definition (Ok true) old new =
    (p : Process) → definition (record p { frames = old }) ≡ Ok (machine.Went, record p { frames = new; ran = p.ran + 1 })
ChangesFrames definition (Ok false) old new = new ≡ old
ChangesFrames definition (Err why) old new = (p : Process) → definition (record p { frames = old }) ≡ Err why
