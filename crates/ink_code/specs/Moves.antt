-- The instructions that move values between registers, and those that jump.
use Rattle.std.specs.Prelude.{ℕ, Bool, if◌then◌else◌, Result, Ok, Err, List, slice_get}
use Rattle.ink_base.specs.declared.value.Value.{Value}
use Rattle.ink_base.specs.declared.value.Value.TheVariants as v
use Rattle.ink_code.specs.declared.code.Code.{Code}
use Rattle.ink_code.specs.declared.wrong.Wrong.{Wrong}
use Rattle.ink_code.specs.declared.wrong.Wrong.TheVariants as wrong
use Rattle.ink_code.specs.Machine.{Outcome, given, after, went, panics, has, reads, put, with_objects}
use Rattle.ink_code.specs.Objects.{lent, after_copy}
use Rattle.ink_code.specs.Process.{Process, with_swapped}

-- what can be a constant: an Int, a Bool, Nil or a text
abbrev pub constant_of : Value → Result Value Wrong
constant_of (v.Int number) = Ok (v.Int number)
constant_of (v.Bool truth) = Ok (v.Bool truth)
constant_of v.Nil = Ok v.Nil
constant_of (v.Txt text) = Ok (v.Txt text)
constant_of value = Err wrong.Kind

-- a register gets a constant
unfoldable pub const_step : Code → ℕ → ℕ → ℕ → Process → Outcome
const_step code next to constant p =
    has to p (given wrong.Absent (slice_get code.constants constant) (λ value. after (constant_of value) (λ plain. went next (put to plain p))))

-- a register gets the value of another, which is empty then
unfoldable pub move_step : ℕ → ℕ → ℕ → Process → Outcome
move_step next to from p = has to p (reads from p (λ value. went next (put to value (put from v.Empty p))))

-- a register gets a value, of which a copy was counted
abbrev pub copies : ℕ → ℕ → Value → Process → Outcome
copies next to value p = after (after_copy value p.objects) (λ objects. went next (put to value (with_objects objects p)))

-- a register gets a copy of a value or of a borrow
unfoldable pub copy_step : ℕ → ℕ → ℕ → Process → Outcome
copy_step next to from p = has to p (reads from p (λ value. copies next to value p))

-- a register gets a borrow of what another holds: an owner's object, a borrow's, or a value itself
unfoldable pub borrow_step : ℕ → ℕ → ℕ → Process → Outcome
borrow_step next to from p = has to p (reads from p (λ value. copies next to (lent value) p))

-- two registers change contents
unfoldable pub exchange_step : ℕ → ℕ → ℕ → Process → Outcome
exchange_step next one other p = has one p (has other p (went next (record p { frames = with_swapped one other p.frames })))

-- a register gets the reference to this process
unfoldable pub my_proc_step : ℕ → ℕ → Process → Outcome
my_proc_step next to p = has to p (went next (put to (v.Proc p.number) p))

-- the frame goes on elsewhere
unfoldable pub jump_step : ℕ → Process → Outcome
jump_step place p = went place p

abbrev pub truth_of : Value → Result Bool Wrong
truth_of (v.Bool truth) = Ok truth
truth_of value = Err wrong.Kind

-- the frame goes on elsewhere where a register holds true
unfoldable pub jump_if_step : ℕ → ℕ → ℕ → Process → Outcome
jump_if_step next on place p =
    reads on p (λ value. after (truth_of value) (λ truth. went (if truth then place else next) p))

abbrev pub text_of : Value → Result (List ℕ) Wrong
text_of (v.Txt text) = Ok text
text_of value = Err wrong.Kind

-- the process ends the run with a text
unfoldable pub panic_step : ℕ → Process → Outcome
panic_step text p = reads text p (λ value. after (text_of value) (λ told. panics told p))
