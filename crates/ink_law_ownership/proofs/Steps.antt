-- What each step leaves of a process: the instructions that want an action, and the step as a whole.
use Rattle.std.proofs.Common.{◌≡◌, ℕ, ◌+◌, Ok, List, [], ◌∷◌, refl, arith, inl, ap, ◌∙◌}
use Rattle.std.specs.FinMap.{empty}
use Rattle.std.proofs.lemmas.Result.{IfOk-at_ok}
use Rattle.ink_base.specs.declared.value.Value.{Value}
use Rattle.ink_base.specs.Actions.{Action}
use Rattle.ink_base.specs.Actions as action
use Rattle.ink_code.specs.declared.code.Code.{Code}
use Rattle.ink_code.specs.declared.frame.Frame.{Frame}
use Rattle.ink_code.specs.declared.instr.Instr.{Instr}
use Rattle.ink_code.specs.declared.instr.Instr.TheVariants as i
use Rattle.ink_code.specs.Machine.{Stepped, Wants, wants}
use Rattle.ink_code.specs.Owned.{times_there}
use Rattle.ink_code.specs.Process.{Process}
use Rattle.ink_code.specs.Step.{instr_step, top_step, free_step}
use Rattle.ink_code.specs.Trees.{Parcel}
use Rattle.ink_code.specs.Wanted.{sends_off, spawn_step, send_step, print_step, future_new_step, future_get_step, promise_set_step}
use Rattle.ink_parcel.proofs.CutLemmas.{takes_of}
use Rattle.ink_law_ownership.specs.Leaves.{StepLeaves, IsTree, Gives, carried}
use Rattle.ink_law_ownership.proofs.Counts.{none_in_empty}
use Rattle.ink_law_ownership.proofs.CutTree.{cut_is_tree}
use Rattle.ink_law_ownership.proofs.Instructions as one
use Rattle.ink_law_ownership.proofs.Kept.{StepOf}
use Rattle.ink_law_ownership.proofs.Right.{Right, right, given_right, after_right}

-- with which nothing goes out
wants_right : (wish : Action Parcel) (p : Process) → carried wish ≡ empty → Gives (Wants wish) p p → Right (StepOf p) (wants wish p)
wants_right wish p nothing gives =
    right (StepOf p) (Wants wish, p) (record {
      number = refl;
      kind = refl;
      ran = omega arith;
      names = record {
        made = omega arith;
        names = λ id.
            let none = ap (times_there id) nothing ∙ none_in_empty id in
            inl (omega arith);
      };
      gives = gives;
    })

-- with which a parcel goes out
sends_right : (values : List Value) (frames : List Frame) (p : Process) (made : Parcel → Action Parcel) → ((parcel : Parcel) → carried (made parcel) ≡ parcel.objects) → ((parcel : Parcel) (q : Process) → IsTree parcel → Gives (Wants (made parcel)) p q) → Right (StepOf p) (sends_off values frames p made)
sends_right values frames p made carries gives = after_right (λ parts is.
    let parcel : Parcel = record { values = values; objects = parts.taken } in
    let t = takes_of values p.objects parts is in
    right (StepOf p) (Wants (made parcel), record p { frames = frames; objects = parts.left }) (record {
      number = refl;
      kind = refl;
      ran = omega arith;
      names = record {
        made = omega arith;
        names = λ id.
            let there = t.there id in
            let none = none_in_empty id in
            let out = ap (times_there id) (carries parcel) in
            inl (omega arith);
      };
      gives = gives parcel _ (cut_is_tree values p.objects parts is);
    }))

spawn_right : (to kind : ℕ) (fields : List ℕ) (p : Process) → Right (StepOf p) (spawn_step to kind fields p)
unfolding spawn_step
spawn_right to kind fields p = given_right _ (λ had h. after_right (λ parts is.
    sends_right parts.0 parts.1 p (action.Spawn kind) (λ parcel. refl) (λ parcel q tree. tree)))

send_right : (code : Code) (process method : ℕ) (arguments : List ℕ) (p : Process) → Right (StepOf p) (send_step code process method arguments p)
unfolding send_step
send_right code process method arguments p = given_right _ (λ called h. after_right (λ value is. after_right (λ receiver k. after_right (λ parts l.
    sends_right parts.0 parts.1 p (action.Send receiver method) (λ parcel. refl) (λ parcel q tree. tree)))))

promise_set_right : (promise from : ℕ) (p : Process) → Right (StepOf p) (promise_set_step promise from p)
unfolding promise_set_step
promise_set_right promise from p = after_right (λ value is. after_right (λ number k. after_right (λ parts l.
    sends_right parts.0 parts.1 p (action.SetFuture number) (λ parcel. refl) (λ parcel q tree. tree))))

print_right : (text : ℕ) (p : Process) → Right (StepOf p) (print_step text p)
unfolding print_step
print_right text p = after_right (λ value is. after_right (λ line k. wants_right (action.Print line) p refl refl))

future_new_right : (future promise : ℕ) (p : Process) → Right (StepOf p) (future_new_step future promise p)
unfolding future_new_step
future_new_right future promise p = given_right _ (λ had h. given_right _ (λ has k. wants_right action.NewFuture p refl refl))

future_get_right : (to future : ℕ) (p : Process) → Right (StepOf p) (future_get_step to future p)
unfolding future_get_step
future_get_right to future p = given_right _ (λ had h. after_right (λ value is. after_right (λ number k. wants_right (action.GetFuture number) p refl refl)))

instr_right : (code : Code) (limits : List ℕ) (next : ℕ) (instr : Instr) (p : Process) → Right (StepOf p) (instr_step code limits next instr p)
unfolding instr_step
instr_right code limits next (i.Const to constant) p = one.const_right code next to constant p
instr_right code limits next (i.Move to from) p = one.move_right next to from p
instr_right code limits next (i.Copy to from) p = one.copy_right next to from p
instr_right code limits next (i.Borrow to from) p = one.borrow_right next to from p
instr_right code limits next (i.Exchange this other) p = one.exchange_right next this other p
instr_right code limits next (i.MyProc to) p = one.my_proc_right next to p
instr_right code limits next (i.Make to kind tag fields) p = one.make_right limits next to kind tag fields p
instr_right code limits next (i.MakeArray to items) p = one.make_array_right limits next to items p
instr_right code limits next (i.Load to object field) p = one.load_right next to object field p
instr_right code limits next (i.LoadBorrow to object field) p = one.load_borrow_right next to object field p
instr_right code limits next (i.Store to object field from) p = one.store_right next to object field from p
instr_right code limits next (i.Tag to object) p = one.tag_right next to object p
instr_right code limits next (i.TakeApart to object) p = one.take_apart_right code next to object p
instr_right code limits next (i.Drop from) p = one.drop_right from p
instr_right code limits next (i.DropMaybe from) p = one.drop_maybe_right next from p
instr_right code limits next (i.Jump place) p = one.jump_right place p
instr_right code limits next (i.JumpIf on place) p = one.jump_if_right next on place p
instr_right code limits next (i.Invoke to method arguments) p = one.invoke_right code limits to method arguments p
instr_right code limits next (i.InvokeBound to slot arguments) p = one.invoke_bound_right code limits to slot arguments p
instr_right code limits next (i.Return from) p = one.return_right code from p
instr_right code limits next (i.Prim row to operands) p = one.prim_right code limits next row to operands p
instr_right code limits next (i.Panic text) p = one.panic_right text p
instr_right code limits next (i.Spawn to kind fields) p = spawn_right to kind fields p
instr_right code limits next (i.Send process method arguments) p = send_right code process method arguments p
instr_right code limits next (i.Print text) p = print_right text p
instr_right code limits next (i.FutureNew future promise) p = future_new_right future promise p
instr_right code limits next (i.FutureGet to future) p = future_get_right to future p
instr_right code limits next (i.PromiseSet promise from) p = promise_set_right promise from p

top_right : (code : Code) (limits : List ℕ) (frames : List Frame) (p : Process) → Right (StepOf p) (top_step code limits frames p)
unfolding top_step
top_right code limits [] p = wants_right action.Take p refl refl
top_right code limits (frame ∷ outer) p = given_right _ (λ instr is. instr_right code limits (frame.place + 1) instr p)

step_right : (code : Code) (limits : List ℕ) (pending : List Value) (p : Process) → Right (StepOf p) (free_step code limits pending p)
unfolding free_step
step_right code limits [] p = top_right code limits p.frames p
step_right code limits (value ∷ left) p = one.drop_next_right code value left p

-- what a step leaves
pub step-leaves : (code : Code) (limits : List ℕ) (p q : Process) (stepped : Stepped) → free_step code limits p.pending p ≡ Ok (stepped, q) → StepLeaves p stepped q
step-leaves code limits p q stepped is = IfOk-at_ok (StepOf p) is ((step_right code limits p.pending p).holds)
