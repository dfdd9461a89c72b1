-- The replies of actions, and what each makes of the process that waits for it.
use Rattle.std.specs.Prelude.{ℕ, Option, Some, Result, Ok, Err, List, [], ◌∷◌, slice_get}
use Rattle.ink_base.specs.declared.value.Value.{Value}
use Rattle.ink_base.specs.declared.value.Value.TheVariants as v
use Rattle.ink_code.specs.declared.code.Code.{Code}
use Rattle.ink_code.specs.declared.instr.Instr.{Instr}
use Rattle.ink_code.specs.declared.instr.Instr.TheVariants as i
use Rattle.ink_code.specs.declared.wrong.Wrong.{Wrong}
use Rattle.ink_code.specs.declared.wrong.Wrong.TheVariants as wrong
use Rattle.ink_code.specs.Machine.{given, after, current, next_place, put}
use Rattle.ink_code.specs.Objects.{after_copy}
use Rattle.ink_code.specs.Process.{Process, state_id, at_place, entered}
use Rattle.ink_code.specs.Trees.{Parcel, joined}

-- the reply of an action that was made
pub data Reply : Type 0 where
  -- it was made, and nothing comes back
  Done : Reply
  -- a message was taken
  Taken : (method : ℕ) (parcel : Parcel) → Reply
  -- a process of this number was made
  Started : (process : ℕ) → Reply
  -- a future of this number was made
  NewPair : (future : ℕ) → Reply
  -- the value of a future came
  Got : (parcel : Parcel) → Reply

-- a process after its action: its steps are counted anew, and its frame goes on
abbrev pub resumed : Process → Process
resumed p = record p { frames = at_place (next_place p.frames) p.frames; ran = 0 }

abbrev pub left_after : List Value → Process → Process
left_after [] p = let last = resumed p in record last { pending = [] }
left_after (value ∷ others) p = record p { pending = value ∷ others; ran = 0 }

-- after an action that gives nothing back: a promise that was dropped is done with, and any other instruction too
abbrev pub after_done : Code → List Value → Process → Result Process Wrong
after_done code [] p = given wrong.Absent (current code p.frames) (λ instr. Ok (resumed p))
after_done code (value ∷ left) p = given wrong.Absent (current code p.frames) (λ instr. Ok (left_after left p))

-- the registers with which the method of a message begins: a borrow of the state, and then the arguments
abbrev pub arguments_of : Process → Parcel → List Value
arguments_of p parcel = v.Bor (state_id p) ∷ parcel.values

-- after a message was taken: its method begins as the first frame, and the borrow of the state is counted
abbrev pub after_taken : Code → ℕ → Parcel → Process → Result Process Wrong
after_taken code method parcel p =
    given wrong.Absent (slice_get code.methods method) (λ called.
    after (after_copy (v.Bor (state_id p)) p.objects) (λ objects.
    Ok (record p { frames = entered method called.registers (arguments_of p parcel) []; objects = joined objects parcel; ran = 0 })))

-- after a spawn: a register gets the reference to the new process
abbrev pub after_started : ℕ → Option Instr → Process → Result Process Wrong
after_started process (Some (i.Spawn to kind fields)) p = Ok (resumed (put to (v.Proc process) p))
after_started process other p = Err wrong.Kind

-- after a future was made: registers get the future and its promise
abbrev pub after_pair : ℕ → Option Instr → Process → Result Process Wrong
after_pair number (Some (i.FutureNew future promise)) p =
    Ok (resumed (put promise (v.Promise number) (put future (v.Future number) p)))
after_pair number other p = Err wrong.Kind

abbrev pub with_value : ℕ → ℕ → List Value → Process → Result Process Wrong
with_value to future [] p = Err wrong.Absent
with_value to future (value ∷ []) p = Ok (resumed (put to value (put future v.Empty p)))
with_value to future (value ∷ other ∷ others) p = Err wrong.Absent

-- after a get: the future is used up, and a register gets the value
abbrev pub after_got : Parcel → Option Instr → Process → Result Process Wrong
after_got parcel (Some (i.FutureGet to future)) p =
    with_value to future parcel.values (record p { objects = joined p.objects parcel })
after_got parcel other p = Err wrong.Kind

-- the process after the reply to the action for which it waits
unfoldable pub answered : Code → Reply → Process → Result Process Wrong
answered code Done p = after_done code p.pending p
answered code (Taken method parcel) p = after_taken code method parcel p
answered code (Started process) p = after_started process (current code p.frames) p
answered code (NewPair future) p = after_pair future (current code p.frames) p
answered code (Got parcel) p = after_got parcel (current code p.frames) p
