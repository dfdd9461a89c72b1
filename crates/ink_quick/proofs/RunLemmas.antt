-- Runs of steps on the frames, one behind the other.
use Rattle.std.proofs.Common.{◌≡◌, ℕ, suc, ◌+◌, ◌<◌, Bool, false, Some, Ok, List, [], ◌∷◌, refl, sym, ap, ◌∙◌, subst, arith}
use Rattle.std.proofs.lemmas.Bool.{lt-leb}
use Rattle.std.specs.Prelude.{nat_le, slice_get}
use Rattle.ink_base.specs.declared.limits.Limit.TheVariants as limit
use Rattle.ink_base.specs.declared.value.Value.{Value}
use Rattle.ink_base.specs.Limits.{limit_of}
use Rattle.ink_code.specs.declared.code.Code.{Code}
use Rattle.ink_code.specs.declared.frame.Frame.{Frame}
use Rattle.ink_code.specs.declared.instr.Instr.{Instr}
use Rattle.ink_code.specs.declared.method.Method.{Method}
use Rattle.ink_code.specs.declared.wrong.Wrong.TheVariants as wrong
use Rattle.ink_code.specs.Fetch.{fetch, in_body}
use Rattle.ink_code.specs.Machine.{Spent, given, when}
use Rattle.ink_code.specs.Process.{Process}
use Rattle.ink_code.specs.Slice.{goes_on, slice_of}
use Rattle.ink_code.specs.Step.{code_step, free_step, instr_step, top_step}
use Rattle.ink_quick.specs.Makes.{IsAt, Makes, Runs, StepsTo, with_frames}

-- no steps
pub none_run : (code : Code) (limits : List ℕ) (frames : List Frame) → Runs code limits 0 frames frames
none_run code limits frames p ran low rest =
    let all : 0 + rest ≡ rest = omega arith in
    let same : ran ≡ ran + 0 = omega arith in
    ap (λ most. slice_of most code limits (with_frames p ran frames)) all
    ∙ ap (λ ran. slice_of rest code limits (with_frames p ran frames)) same

-- a slice of one step more
pub first_step : (code : Code) (limits : List ℕ) (rest : ℕ) (p : Process) → slice_of (suc rest) code limits p ≡ goes_on (code_step code limits p) (λ q. slice_of rest code limits q)
unfolding slice_of
first_step code limits rest p = refl

-- one step more
pub one_more : (code : Code) (limits : List ℕ) (made : ℕ) (old middle new : List Frame) → Runs code limits made old middle → StepsTo code limits middle new → Runs code limits (made + 1) old new
one_more code limits made old middle new runs step p ran low rest =
    let longer : made + 1 + rest ≡ made + suc rest = omega arith in
    let all : ran + made + 1 ≡ ran + (made + 1) = omega arith in
    ap (λ most. slice_of most code limits (with_frames p ran old)) longer
    ∙ runs p ran (omega (arith, low)) (suc rest)
    ∙ first_step code limits rest (with_frames p (ran + made) middle)
    ∙ ap (λ outcome. goes_on outcome (λ q. slice_of rest code limits q)) (step p (ran + made) (omega (arith, low)))
    ∙ ap (λ ran. slice_of rest code limits (with_frames p ran new)) all

-- a run behind another
pub both_runs : (code : Code) (limits : List ℕ) (made here : ℕ) (old middle new : List Frame) → Runs code limits made old middle → Runs code limits here middle new → Runs code limits (made + here) old new
both_runs code limits made here old middle new runs then p ran low rest =
    let longer : made + here + rest ≡ made + (here + rest) = omega arith in
    let all : ran + made + here ≡ ran + (made + here) = omega arith in
    ap (λ most. slice_of most code limits (with_frames p ran old)) longer
    ∙ runs p ran (omega (arith, low)) (here + rest)
    ∙ then p (ran + made) (omega (arith, low)) rest
    ∙ ap (λ ran. slice_of rest code limits (with_frames p ran new)) all

below_limit : (most ran : ℕ) → ran < most → nat_le most ran ≡ false
below_limit most ran low = lt-leb most ran low

-- the step of the innermost frame's instruction
pub top_goes : (code : Code) (limits : List ℕ) (frame : Frame) (outer : List Frame) (instr : Instr) (p : Process) (ran : ℕ) → fetch code frame.method frame.place ≡ Some instr → ran < limit_of limit.Local limits
    → code_step code limits (with_frames p ran (frame ∷ outer)) ≡ instr_step code limits (frame.place + 1) instr (with_frames p ran (frame ∷ outer))
unfolding code_step free_step top_step given when
top_goes code limits frame outer instr p ran found low =
    let begun : Process = with_frames p ran (frame ∷ outer) in
    ap (λ (test : Bool). when test (Ok (Spent ran, begun)) (free_step code limits [] begun)) (below_limit (limit_of limit.Local limits) ran low)
    ∙ ap (λ at. given wrong.Absent at (λ instr. instr_step code limits (frame.place + 1) instr begun)) found

-- a step within the innermost frame
pub frame_steps : (code : Code) (limits : List ℕ) (frame : Frame) (outer : List Frame) (instr : Instr) (next : ℕ) (new : List Value) → fetch code frame.method frame.place ≡ Some instr → Makes (instr_step code limits (frame.place + 1) instr) frame.registers next new
    → StepsTo code limits (frame ∷ outer) (record frame { place = next; registers = new } ∷ outer)
frame_steps code limits frame outer instr next new found makes p ran low =
    top_goes code limits frame outer instr p ran found low ∙ makes p frame outer ran

-- a step at a place of a method
pub place_steps : (code : Code) (limits : List ℕ) (frame : Frame) (outer : List Frame) (method : Method) (place next to : ℕ) (instr : Instr) (old new : List Value) → IsAt code frame method place old → slice_get method.body place ≡ Some instr → place + 1 ≡ next → Makes (instr_step code limits next instr) old to new
    → StepsTo code limits (frame ∷ outer) (record frame { place = to; registers = new } ∷ outer)
place_steps code limits frame outer method place next to instr old new at found behind makes =
    let here : fetch code frame.method frame.place ≡ Some instr = ap (λ runs. in_body runs frame.place) at.runs ∙ ap (slice_get method.body) at.at ∙ found in
    let same : next ≡ frame.place + 1 = sym behind ∙ ap (λ place. place + 1) (sym at.at) in
    let Of : ℕ → List Value → Type 0 = λ next registers. Makes (instr_step code limits next instr) registers to new in
    frame_steps code limits frame outer instr to new here (subst (Of (frame.place + 1)) (sym at.holds) (subst (λ next. Of next old) same makes))
