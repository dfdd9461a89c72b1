-- The instructions that want an action.
use Rattle.std.specs.Prelude.{ℕ, Result, Ok, Err, List, [], ◌∷◌, slice_get}
use Rattle.ink_base.specs.declared.value.Value.{Value}
use Rattle.ink_base.specs.declared.value.Value.TheVariants as v
use Rattle.ink_base.specs.Actions.{Action}
use Rattle.ink_base.specs.Actions as action
use Rattle.ink_code.specs.declared.code.Code.{Code}
use Rattle.ink_code.specs.declared.frame.Frame.{Frame}
use Rattle.ink_code.specs.declared.wrong.Wrong.{Wrong}
use Rattle.ink_code.specs.declared.wrong.Wrong.TheVariants as wrong
use Rattle.ink_code.specs.Machine.{Outcome, given, after, wants, has, reads}
use Rattle.ink_code.specs.Moves.{text_of}
use Rattle.ink_code.specs.Process.{Process, with_register, taken_out}
use Rattle.ink_code.specs.Trees.{Parcel, parted_of}

-- values are cut out as a parcel with the objects of their tree, and go with an action
abbrev pub sends_off : List Value → List Frame → Process → (Parcel → Action Parcel) → Outcome
sends_off values frames p made =
    after (parted_of values p.objects) (λ parted.
    wants (made (record { values = values; objects = parted.taken })) (record p { frames = frames; objects = parted.left }))

-- a new process of a type is wanted, with these fields of its state
unfoldable pub spawn_step : ℕ → ℕ → List ℕ → Process → Outcome
spawn_step to kind fields p =
    has to p (after (taken_out fields p.frames) (λ parts. sends_off parts.0 parts.1 p (action.Spawn kind)))

abbrev pub process_of : Value → Result ℕ Wrong
process_of (v.Proc process) = Ok process
process_of value = Err wrong.Kind

-- a message to a process is wanted, with a method that is there
unfoldable pub send_step : Code → ℕ → ℕ → List ℕ → Process → Outcome
send_step code process method arguments p =
    given wrong.Absent (slice_get code.methods method) (λ called. reads process p (λ value. after (process_of value) (λ receiver. after (taken_out arguments p.frames) (λ parts.
    sends_off parts.0 parts.1 p (action.Send receiver method)))))

-- a line of the output is wanted
unfoldable pub print_step : ℕ → Process → Outcome
print_step text p = reads text p (λ value. after (text_of value) (λ line. wants (action.Print line) p))

-- a new future is wanted
unfoldable pub future_new_step : ℕ → ℕ → Process → Outcome
future_new_step future promise p = has future p (has promise p (wants action.NewFuture p))

abbrev pub future_of : Value → Result ℕ Wrong
future_of (v.Future future) = Ok future
future_of value = Err wrong.Kind

-- the value of a future is wanted: the register keeps the future until it comes
unfoldable pub future_get_step : ℕ → ℕ → Process → Outcome
future_get_step to future p =
    has to p (reads future p (λ value. after (future_of value) (λ number. wants (action.GetFuture number) p)))

abbrev pub promise_of : Value → Result ℕ Wrong
promise_of (v.Promise future) = Ok future
promise_of value = Err wrong.Kind

-- a value is to be set at a promise, which is used up
unfoldable pub promise_set_step : ℕ → ℕ → Process → Outcome
promise_set_step promise from p =
    reads promise p (λ value. after (promise_of value) (λ number. after (taken_out (from ∷ []) (with_register promise v.Empty p.frames)) (λ parts.
    sends_off parts.0 parts.1 p (action.SetFuture number))))
