-- The code machine: one clause for each instruction.
use Rattle.std.specs.Prelude.{ℕ, ◌+◌, nat_le, Ok, List, [], ◌∷◌}
use Rattle.ink_base.specs.declared.limits.Limit.TheVariants as limit
use Rattle.ink_base.specs.declared.value.Value.{Value}
use Rattle.ink_base.specs.Actions as action
use Rattle.ink_base.specs.Limits.{limit_of}
use Rattle.ink_code.specs.declared.code.Code.{Code}
use Rattle.ink_code.specs.declared.frame.Frame.{Frame}
use Rattle.ink_code.specs.declared.instr.Instr.{Instr}
use Rattle.ink_code.specs.declared.instr.Instr.TheVariants as i
use Rattle.ink_code.specs.declared.wrong.Wrong.TheVariants as wrong
use Rattle.ink_code.specs.Calls.{invoke_step, invoke_bound_step, return_step}
use Rattle.ink_code.specs.Drops.{drop_step, drop_maybe_step, drop_next}
use Rattle.ink_code.specs.Fetch.{fetch}
use Rattle.ink_code.specs.Machine.{Outcome, Spent, given, when, wants}
use Rattle.ink_code.specs.Makes.{make_step, make_array_step, load_step, load_borrow_step, store_step, tag_step, take_apart_step}
use Rattle.ink_code.specs.Moves.{const_step, move_step, copy_step, borrow_step, exchange_step, my_proc_step, jump_step, jump_if_step, panic_step}
use Rattle.ink_code.specs.Prims.{prim_step}
use Rattle.ink_code.specs.Process.{Process}
use Rattle.ink_code.specs.Wanted.{spawn_step, send_step, print_step, future_new_step, future_get_step, promise_set_step}

-- what one instruction does, behind which the next place is that
unfoldable pub instr_step : Code → List ℕ → ℕ → Instr → Process → Outcome
instr_step code limits next (i.Const to constant) p = const_step code next to constant p
instr_step code limits next (i.Move to from) p = move_step next to from p
instr_step code limits next (i.Copy to from) p = copy_step next to from p
instr_step code limits next (i.Borrow to from) p = borrow_step next to from p
instr_step code limits next (i.Exchange one other) p = exchange_step next one other p
instr_step code limits next (i.MyProc to) p = my_proc_step next to p
instr_step code limits next (i.Make to kind tag fields) p = make_step limits next to kind tag fields p
instr_step code limits next (i.MakeArray to items) p = make_array_step limits next to items p
instr_step code limits next (i.Load to object field) p = load_step next to object field p
instr_step code limits next (i.LoadBorrow to object field) p = load_borrow_step next to object field p
instr_step code limits next (i.Store to object field from) p = store_step next to object field from p
instr_step code limits next (i.Tag to object) p = tag_step next to object p
instr_step code limits next (i.TakeApart to object) p = take_apart_step code next to object p
instr_step code limits next (i.Drop from) p = drop_step from p
instr_step code limits next (i.DropMaybe from) p = drop_maybe_step next from p
instr_step code limits next (i.Jump place) p = jump_step place p
instr_step code limits next (i.JumpIf on place) p = jump_if_step next on place p
instr_step code limits next (i.Invoke to method arguments) p = invoke_step code limits to method arguments p
instr_step code limits next (i.InvokeBound to slot arguments) p = invoke_bound_step code limits to slot arguments p
instr_step code limits next (i.Return from) p = return_step code from p
instr_step code limits next (i.Prim row to operands) p = prim_step code limits next row to operands p
instr_step code limits next (i.Panic text) p = panic_step text p
instr_step code limits next (i.Spawn to kind fields) p = spawn_step to kind fields p
instr_step code limits next (i.Send process method arguments) p = send_step code process method arguments p
instr_step code limits next (i.Print text) p = print_step text p
instr_step code limits next (i.FutureNew future promise) p = future_new_step future promise p
instr_step code limits next (i.FutureGet to future) p = future_get_step to future p
instr_step code limits next (i.PromiseSet promise from) p = promise_set_step promise from p

-- the step of a process without drops that wait: it wants to take a message where it has no frame
unfoldable pub top_step : Code → List ℕ → List Frame → Process → Outcome
top_step code limits [] p = wants action.Take p
top_step code limits (frame ∷ outer) p =
    given wrong.Absent (fetch code frame.method frame.place) (λ instr. instr_step code limits (frame.place + 1) instr p)

-- the step of a process whatever steps it made: a drop that waits comes first
unfoldable pub free_step : Code → List ℕ → List Value → Process → Outcome
free_step code limits [] p = top_step code limits p.frames p
free_step code limits (value ∷ left) p = drop_next code value left p

-- one step of a process
unfoldable pub code_step : Code → List ℕ → Process → Outcome
code_step code limits p =
    when (nat_le (limit_of limit.Local limits) p.ran) (Ok (Spent p.ran, p)) (free_step code limits p.pending p)
