-- Steps that touch the frames alone, one behind the other.
use Rattle.std.proofs.Common.{◌≡◌, ℕ, suc, ◌+◌, ◌-◌, ◌<◌, ◌≤◌, Bool, true, false, None, Some, Result, Ok, Err, List, [], ◌∷◌, refl, sym, ap, ◌∙◌, arith}
use Rattle.std.specs.List.{slice_get}
use Rattle.ink_base.specs.declared.limits.Limit.TheVariants as limit
use Rattle.ink_base.specs.declared.value.Value.{Value}
use Rattle.ink_base.specs.Limits.{limit_of}
use Rattle.ink_code.specs.declared.code.Code.{Code}
use Rattle.ink_code.specs.declared.frame.Frame.{Frame}
use Rattle.ink_code.specs.declared.instr.Instr.{Instr}
use Rattle.ink_code.specs.declared.instr.Instr.TheVariants as i
use Rattle.ink_code.specs.declared.wrong.Wrong.{Wrong}
use Rattle.ink_code.specs.Calls.{invoke_step, return_step}
use Rattle.ink_code.specs.Machine.{current, next_place}
use Rattle.ink_code.specs.Process.{Process}
use Rattle.ink_code.specs.Slice.{goes_on, slice_of}
use Rattle.ink_code.specs.Step.{code_step, instr_step}
use Rattle.ink_interp.specs.Quick.{IsChange, IsRun}
use Rattle.ink_quick.specs.Makes.{Leads, Runs, StepsTo, with_frames}
use Rattle.ink_quick.proofs.RunLemmas.{first_step, top_goes}
use Rattle.ink_steps.specs.Answers.{ChangesFrames}

-- the step of the instruction in work
current_goes : (code : Code) (limits : List ℕ) (frames : List Frame) (instr : Instr) (p : Process) (ran : ℕ) → current code frames ≡ Some instr → ran < limit_of limit.Local limits
    → code_step code limits (with_frames p ran frames) ≡ instr_step code limits (next_place frames) instr (with_frames p ran frames)
current_goes code limits [] instr p ran at low = cc
current_goes code limits (frame ∷ outer) instr p ran at low = top_goes code limits frame outer instr p ran at low

-- the instruction in work is a call
pub calls : (code : Code) (limits : List ℕ) (frames new : List Frame) (to method : ℕ) (arguments : List ℕ) (result : Result Bool Wrong) → current code frames ≡ Some (i.Invoke to method arguments)
    → ChangesFrames (λ p. invoke_step code limits to method arguments p) result frames new → IsChange code limits result frames new
unfolding instr_step
calls code limits frames new to method arguments (Ok true) at changes = λ p ran low.
    current_goes code limits frames (i.Invoke to method arguments) p ran at low ∙ changes (with_frames p ran frames)
calls code limits frames new to method arguments (Ok false) at changes = changes
calls code limits frames new to method arguments (Err why) at changes = λ p ran low.
    current_goes code limits frames (i.Invoke to method arguments) p ran at low ∙ changes (with_frames p ran frames)

-- the instruction in work ends the frame
pub returns : (code : Code) (limits : List ℕ) (frames new : List Frame) (from : ℕ) (result : Result Bool Wrong) → current code frames ≡ Some (i.Return from)
    → ChangesFrames (λ p. return_step code from p) result frames new → IsChange code limits result frames new
unfolding instr_step
returns code limits frames new from (Ok true) at changes = λ p ran low.
    current_goes code limits frames (i.Return from) p ran at low ∙ changes (with_frames p ran frames)
returns code limits frames new from (Ok false) at changes = changes
returns code limits frames new from (Err why) at changes = λ p ran low.
    current_goes code limits frames (i.Return from) p ran at low ∙ changes (with_frames p ran frames)

-- nothing was done
pub none_changed : (code : Code) (limits : List ℕ) (changed : Bool) (old new : List Frame) → changed ≡ false → IsChange code limits (Ok changed) old new → new ≡ old
none_changed code limits true old new is change = absurd cc
none_changed code limits false old new is change = change

-- a step was made
pub one_changed : (code : Code) (limits : List ℕ) (changed : Bool) (old new : List Frame) → changed ≡ true → IsChange code limits (Ok changed) old new → StepsTo code limits old new
one_changed code limits true old new is change = change
one_changed code limits false old new is change = absurd cc

-- behind so many steps the next one is wrong
pub wrong_run : (code : Code) (limits : List ℕ) (made most : ℕ) (old middle new : List Frame) (why : Wrong) → made < most → Runs code limits made old middle → IsChange code limits (Err why) middle new → IsRun code limits most (Err why) old new
wrong_run code limits made most old middle new why low runs wrong p ran rest fits =
    let left : ℕ = most - made - 1 + rest in
    let all : most + rest ≡ made + suc left = omega (arith, low) in
    ap (λ most. slice_of most code limits (with_frames p ran old)) all
    ∙ runs p ran (omega (arith, low, fits)) (suc left)
    ∙ first_step code limits left (with_frames p (ran + made) middle)
    ∙ ap (λ outcome. goes_on outcome (λ q. slice_of left code limits q)) (wrong p (ran + made) (omega (arith, low, fits)))

-- no drop waits
pub none_waits : (pending : List Value) → slice_get pending 0 ≡ None → pending ≡ []
none_waits [] none = refl
none_waits (value ∷ others) none = cc

-- a process in which no drop waits is its frames with what stands around them
same_process : (p : Process) → p.pending ≡ [] → with_frames p p.ran p.frames ≡ p
same_process p none = ap (λ (pending : List Value). record p { pending = pending }) (sym none)

-- no steps
pub none_leads : (code : Code) (limits : List ℕ) (p : Process) → Leads code limits 0 p p
none_leads code limits p rest =
    let all : 0 + rest ≡ rest = omega arith in
    ap (λ most. slice_of most code limits p) all

-- the steps of a process's frames are its steps
pub made_steps : (code : Code) (limits : List ℕ) (p : Process) (made : ℕ) (new : List Frame) → p.pending ≡ [] → p.ran + made ≤ limit_of limit.Local limits → Runs code limits made p.frames new → Leads code limits made p (record p { frames = new; ran = p.ran + made })
made_steps code limits p made new none fits runs rest =
    ap (λ q. slice_of (made + rest) code limits q) (sym (same_process p none))
    ∙ runs p p.ran fits rest
    ∙ ap (λ (pending : List Value). slice_of rest code limits (record p { frames = new; pending = pending; ran = p.ran + made })) (sym none)

-- a slice of a process's frames that is wrong
pub wrong_steps : (code : Code) (limits : List ℕ) (p : Process) (few most : ℕ) (new : List Frame) (why : Wrong) → p.pending ≡ [] → few ≤ most → p.ran + few ≤ limit_of limit.Local limits → IsRun code limits few (Err why) p.frames new → slice_of most code limits p ≡ Err why
wrong_steps code limits p few most new why none low fits wrong =
    let all : most ≡ few + (most - few) = omega (arith, low) in
    ap (λ most. slice_of most code limits p) all
    ∙ ap (λ q. slice_of (few + (most - few)) code limits q) (sym (same_process p none))
    ∙ wrong p p.ran (most - few) fits
