-- The instructions that begin and end frames.
use Rattle.std.specs.Prelude.{ℕ, ◌+◌, ◌==◌, ◌&&◌, if◌then◌else◌, Option, None, Some, Err, List, [], ◌∷◌, length, slice_get}
use Rattle.ink_base.specs.declared.limits.Limit.TheVariants as limit
use Rattle.ink_base.specs.declared.value.Value.{Value}
use Rattle.ink_base.specs.Actions.{reached}
use Rattle.ink_code.specs.declared.code.Code.{Code}
use Rattle.ink_code.specs.declared.code.Impl.{Impl}
use Rattle.ink_code.specs.declared.frame.Frame.{Frame}
use Rattle.ink_code.specs.declared.instr.Instr.{Instr}
use Rattle.ink_code.specs.declared.instr.Instr.TheVariants as i
use Rattle.ink_code.specs.declared.wrong.Wrong.TheVariants as wrong
use Rattle.ink_code.specs.Fetch.{fetch}
use Rattle.ink_code.specs.Machine.{Outcome, given, after, unless_text, stays, has, reads}
use Rattle.ink_code.specs.Objects.{object_at, object_of}
use Rattle.ink_code.specs.Process.{Process, held, with_register, at_place, taken_out, entered}

-- a method is called with the values of registers: at the limit of frames nothing moves
unfoldable pub invoke_step : Code → List ℕ → ℕ → ℕ → List ℕ → Process → Outcome
invoke_step code limits to method arguments p =
    has to p (given wrong.Absent (slice_get code.methods method) (λ called.
    unless_text (reached limit.Frames (length p.frames) limits) p
    (after (taken_out arguments p.frames) (λ parts. stays (record p { frames = entered method called.registers parts.0 parts.1 })))))

-- the method that a type has in a slot, by the first of the impls that tells one
unfoldable pub method_in : List Impl → ℕ → ℕ → Option ℕ
method_in [] kind slot = None
method_in (impl ∷ rest) kind slot =
    if impl.kind == kind && impl.slot == slot then Some impl.method else method_in rest kind slot

abbrev pub first_register : List ℕ → Option ℕ
first_register [] = None
first_register (number ∷ others) = Some number

-- the method is called that the type of the first argument's object has in a slot
unfoldable pub invoke_bound_step : Code → List ℕ → ℕ → ℕ → List ℕ → Process → Outcome
invoke_bound_step code limits to slot arguments p =
    given wrong.Absent (first_register arguments) (λ first. reads first p (λ value. after (object_of value) (λ id.
    after (object_at p.objects id) (λ found. given wrong.Absent (method_in code.impls found.kind slot) (λ method.
    invoke_step code limits to method arguments p)))))

-- the register to which the value of a call goes
abbrev pub target_of : Option Instr → Option ℕ
target_of (Some (i.Invoke to method arguments)) = Some to
target_of (Some (i.InvokeBound to slot arguments)) = Some to
target_of other = None

-- a value goes to the frame that called, which goes on; that of a first frame goes nowhere
abbrev pub returns_to : Code → Value → List Frame → Process → Outcome
returns_to code value [] p = stays (record p { frames = [] })
returns_to code value (frame ∷ outer) p =
    given wrong.Absent (target_of (fetch code frame.method frame.place)) (λ to.
    stays (record p { frames = at_place (frame.place + 1) (with_register to value (frame ∷ outer)) }))

abbrev pub ends : Code → ℕ → List Frame → Process → Outcome
ends code from [] p = Err wrong.Absent
ends code from (frame ∷ outer) p = after (held (slice_get frame.registers from)) (λ value. returns_to code value outer p)

-- the innermost frame ends with the value of a register
unfoldable pub return_step : Code → ℕ → Process → Outcome
return_step code from p = ends code from p.frames p
