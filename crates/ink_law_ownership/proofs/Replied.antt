-- What each reply leaves of a process.
use Rattle.std.proofs.Common.{◌≡◌, ℕ, ◌+◌, ◌≤◌, Bool, true, false, cond, Option, Some, None, Ok, List, [], ◌∷◌, refl, sym, ap, subst, arith}
use Rattle.std.specs.Option.{is_some}
use Rattle.std.specs.FinMap.{find, get, entries, get-insert, get-entries}
use Rattle.std.proofs.lemmas.Result.{IfOk-at_ok}
use Rattle.ink_base.specs.declared.ident.ObjectId.{ObjectId}
use Rattle.ink_base.specs.declared.object.Object.{Object}
use Rattle.ink_base.specs.declared.value.Value.{Value}
use Rattle.ink_base.specs.declared.value.Value.TheVariants as v
use Rattle.ink_base.specs.Ident.{id_cmp}
use Rattle.ink_base.specs.Objects.{Objects}
use Rattle.ink_base.proofs.IdentLemmas.{id_cmp_total}
use Rattle.ink_code.specs.declared.code.Code.{Code}
use Rattle.ink_code.specs.declared.instr.Instr.{Instr}
use Rattle.ink_code.specs.declared.instr.Instr.TheVariants as i
use Rattle.ink_code.specs.declared.wrong.Wrong.TheVariants as wrong
use Rattle.ink_code.specs.Owned.{one_if, times_there}
use Rattle.ink_code.specs.Process.{Process, state_id}
use Rattle.ink_code.specs.Machine.{current}
use Rattle.ink_code.specs.Replies.{Reply, Done, Taken, Started, NewPair, Got, answered, after_done, after_taken, after_started, after_pair, after_got, with_value, left_after}
use Rattle.ink_code.specs.Trees.{Parcel, put_each, joined}
use Rattle.ink_heap.specs.Pairs.{Pairs}
use Rattle.ink_heap.proofs.ObjectsLemmas.{is_same}
use Rattle.ink_law_ownership.specs.Leaves.{ReplyLeaves}
use Rattle.ink_law_ownership.proofs.Counts.{NoMore-copy}
use Rattle.ink_law_ownership.proofs.Right.{Right, right, wrong, given_right, after_right}

-- a name stands among joined objects no more often than in both

put_at : (test : Bool) (object : Object) (put front back : Option Object) → one_if (is_some put) ≤ one_if (is_some back) + one_if (is_some front) → one_if (is_some (cond test (Some object) put)) ≤ one_if (is_some back) + one_if (is_some (cond test (Some object) front))
put_at true object put front back low = omega arith
put_at false object put front back low = low

put_each_names : (pairs : Pairs) (objects : Objects) (id : ObjectId) → times_there id (put_each pairs objects) ≤ times_there id objects + one_if (is_some (find id_cmp id pairs))
put_each_names [] objects id = omega arith
put_each_names ((name, object) ∷ pairs) objects id =
    let behind = put_each_names pairs objects id in
    subst (λ found. one_if (is_some found) ≤ times_there id objects + one_if (is_some (find id_cmp id ((name, object) ∷ pairs)))) (sym (get-insert id_cmp_total (put_each pairs objects) name object id)) (put_at (is_same id name) object (get (put_each pairs objects) id) (find id_cmp id pairs) (get objects id) behind)

pub joined_names : (id : ObjectId) (objects : Objects) (parcel : Parcel) → times_there id (joined objects parcel) ≤ times_there id objects + times_there id parcel.objects
unfolding joined
joined_names id objects parcel =
    subst (λ found. times_there id (put_each (entries parcel.objects) objects) ≤ times_there id objects + one_if (is_some found)) (sym (get-entries parcel.objects id)) (put_each_names (entries parcel.objects) objects id)

-- what is shown of a reply
abbrev ReplyOf : Reply → Process → Process → Type 0
ReplyOf reply p q = ReplyLeaves reply p q

quiet : (reply : Reply) (p q : Process) → q.number ≡ p.number → q.kind ≡ p.kind → q.ran ≡ 0 → q.made ≡ p.made → q.objects ≡ p.objects → ReplyLeaves reply p q
quiet reply p q number kind ran made objects = record {
  number = number;
  kind = kind;
  ran = ran;
  made = made;
  names = λ id. let same = ap (times_there id) objects in omega arith;
}

left_right : (left : List Value) (p : Process) → ReplyLeaves Done p (left_after left p)
left_right [] p = quiet Done p _ refl refl refl refl refl
left_right (value ∷ others) p = quiet Done p _ refl refl refl refl refl

done_right : (code : Code) (pending : List Value) (p : Process) → Right (ReplyOf Done p) (after_done code pending p)
done_right code [] p = given_right _ (λ instr is. right (ReplyOf Done p) _ (quiet Done p _ refl refl refl refl refl))
done_right code (value ∷ left) p = given_right _ (λ instr is. right (ReplyOf Done p) _ (left_right left p))

taken_right : (code : Code) (method : ℕ) (parcel : Parcel) (p : Process) → Right (ReplyOf (Taken method parcel) p) (after_taken code method parcel p)
taken_right code method parcel p = given_right _ (λ called is. after_right (λ objects k.
    right (ReplyOf (Taken method parcel) p) _ (record {
      number = refl;
      kind = refl;
      ran = refl;
      made = refl;
      names = λ id.
          let both = joined_names id objects parcel in
          let more = NoMore-copy (v.Bor (state_id p)) p.objects objects k id in
          omega arith;
    })))

started_right : (number : ℕ) (instr : Option Instr) (p : Process) → Right (ReplyOf (Started number) p) (after_started number instr p)
started_right number None p = wrong (ReplyOf (Started number) p) wrong.Kind
started_right number (Some (i.Const to constant)) p = wrong (ReplyOf (Started number) p) wrong.Kind
started_right number (Some (i.Move to from)) p = wrong (ReplyOf (Started number) p) wrong.Kind
started_right number (Some (i.Copy to from)) p = wrong (ReplyOf (Started number) p) wrong.Kind
started_right number (Some (i.Borrow to from)) p = wrong (ReplyOf (Started number) p) wrong.Kind
started_right number (Some (i.Exchange one other)) p = wrong (ReplyOf (Started number) p) wrong.Kind
started_right number (Some (i.MyProc to)) p = wrong (ReplyOf (Started number) p) wrong.Kind
started_right number (Some (i.Make to kind tag fields)) p = wrong (ReplyOf (Started number) p) wrong.Kind
started_right number (Some (i.MakeArray to items)) p = wrong (ReplyOf (Started number) p) wrong.Kind
started_right number (Some (i.Load to object field)) p = wrong (ReplyOf (Started number) p) wrong.Kind
started_right number (Some (i.LoadBorrow to object field)) p = wrong (ReplyOf (Started number) p) wrong.Kind
started_right number (Some (i.Store to object field from)) p = wrong (ReplyOf (Started number) p) wrong.Kind
started_right number (Some (i.Tag to object)) p = wrong (ReplyOf (Started number) p) wrong.Kind
started_right number (Some (i.TakeApart to object)) p = wrong (ReplyOf (Started number) p) wrong.Kind
started_right number (Some (i.Drop from)) p = wrong (ReplyOf (Started number) p) wrong.Kind
started_right number (Some (i.DropMaybe from)) p = wrong (ReplyOf (Started number) p) wrong.Kind
started_right number (Some (i.Jump place)) p = wrong (ReplyOf (Started number) p) wrong.Kind
started_right number (Some (i.JumpIf on place)) p = wrong (ReplyOf (Started number) p) wrong.Kind
started_right number (Some (i.Invoke to method arguments)) p = wrong (ReplyOf (Started number) p) wrong.Kind
started_right number (Some (i.InvokeBound to slot arguments)) p = wrong (ReplyOf (Started number) p) wrong.Kind
started_right number (Some (i.Return from)) p = wrong (ReplyOf (Started number) p) wrong.Kind
started_right number (Some (i.Prim row to operands)) p = wrong (ReplyOf (Started number) p) wrong.Kind
started_right number (Some (i.Panic text)) p = wrong (ReplyOf (Started number) p) wrong.Kind
started_right number (Some (i.Spawn to kind fields)) p = right (ReplyOf (Started number) p) _ (quiet (Started number) p _ refl refl refl refl refl)
started_right number (Some (i.Send process method arguments)) p = wrong (ReplyOf (Started number) p) wrong.Kind
started_right number (Some (i.Print text)) p = wrong (ReplyOf (Started number) p) wrong.Kind
started_right number (Some (i.FutureNew future promise)) p = wrong (ReplyOf (Started number) p) wrong.Kind
started_right number (Some (i.FutureGet to future)) p = wrong (ReplyOf (Started number) p) wrong.Kind
started_right number (Some (i.PromiseSet promise from)) p = wrong (ReplyOf (Started number) p) wrong.Kind

pair_right : (number : ℕ) (instr : Option Instr) (p : Process) → Right (ReplyOf (NewPair number) p) (after_pair number instr p)
pair_right number None p = wrong (ReplyOf (NewPair number) p) wrong.Kind
pair_right number (Some (i.Const to constant)) p = wrong (ReplyOf (NewPair number) p) wrong.Kind
pair_right number (Some (i.Move to from)) p = wrong (ReplyOf (NewPair number) p) wrong.Kind
pair_right number (Some (i.Copy to from)) p = wrong (ReplyOf (NewPair number) p) wrong.Kind
pair_right number (Some (i.Borrow to from)) p = wrong (ReplyOf (NewPair number) p) wrong.Kind
pair_right number (Some (i.Exchange one other)) p = wrong (ReplyOf (NewPair number) p) wrong.Kind
pair_right number (Some (i.MyProc to)) p = wrong (ReplyOf (NewPair number) p) wrong.Kind
pair_right number (Some (i.Make to kind tag fields)) p = wrong (ReplyOf (NewPair number) p) wrong.Kind
pair_right number (Some (i.MakeArray to items)) p = wrong (ReplyOf (NewPair number) p) wrong.Kind
pair_right number (Some (i.Load to object field)) p = wrong (ReplyOf (NewPair number) p) wrong.Kind
pair_right number (Some (i.LoadBorrow to object field)) p = wrong (ReplyOf (NewPair number) p) wrong.Kind
pair_right number (Some (i.Store to object field from)) p = wrong (ReplyOf (NewPair number) p) wrong.Kind
pair_right number (Some (i.Tag to object)) p = wrong (ReplyOf (NewPair number) p) wrong.Kind
pair_right number (Some (i.TakeApart to object)) p = wrong (ReplyOf (NewPair number) p) wrong.Kind
pair_right number (Some (i.Drop from)) p = wrong (ReplyOf (NewPair number) p) wrong.Kind
pair_right number (Some (i.DropMaybe from)) p = wrong (ReplyOf (NewPair number) p) wrong.Kind
pair_right number (Some (i.Jump place)) p = wrong (ReplyOf (NewPair number) p) wrong.Kind
pair_right number (Some (i.JumpIf on place)) p = wrong (ReplyOf (NewPair number) p) wrong.Kind
pair_right number (Some (i.Invoke to method arguments)) p = wrong (ReplyOf (NewPair number) p) wrong.Kind
pair_right number (Some (i.InvokeBound to slot arguments)) p = wrong (ReplyOf (NewPair number) p) wrong.Kind
pair_right number (Some (i.Return from)) p = wrong (ReplyOf (NewPair number) p) wrong.Kind
pair_right number (Some (i.Prim row to operands)) p = wrong (ReplyOf (NewPair number) p) wrong.Kind
pair_right number (Some (i.Panic text)) p = wrong (ReplyOf (NewPair number) p) wrong.Kind
pair_right number (Some (i.Spawn to kind fields)) p = wrong (ReplyOf (NewPair number) p) wrong.Kind
pair_right number (Some (i.Send process method arguments)) p = wrong (ReplyOf (NewPair number) p) wrong.Kind
pair_right number (Some (i.Print text)) p = wrong (ReplyOf (NewPair number) p) wrong.Kind
pair_right number (Some (i.FutureNew future promise)) p = right (ReplyOf (NewPair number) p) _ (quiet (NewPair number) p _ refl refl refl refl refl)
pair_right number (Some (i.FutureGet to future)) p = wrong (ReplyOf (NewPair number) p) wrong.Kind
pair_right number (Some (i.PromiseSet promise from)) p = wrong (ReplyOf (NewPair number) p) wrong.Kind

value_right : (to future : ℕ) (values : List Value) (parcel : Parcel) (p : Process) → Right (ReplyOf (Got parcel) p) (with_value to future values (record p { objects = joined p.objects parcel }))
value_right to future [] parcel p = wrong (ReplyOf (Got parcel) p) wrong.Absent
value_right to future (value ∷ []) parcel p =
    right (ReplyOf (Got parcel) p) _ (record {
      number = refl;
      kind = refl;
      ran = refl;
      made = refl;
      names = λ id. joined_names id p.objects parcel;
    })
value_right to future (value ∷ other ∷ others) parcel p = wrong (ReplyOf (Got parcel) p) wrong.Absent

got_right : (parcel : Parcel) (instr : Option Instr) (p : Process) → Right (ReplyOf (Got parcel) p) (after_got parcel instr p)
got_right parcel None p = wrong (ReplyOf (Got parcel) p) wrong.Kind
got_right parcel (Some (i.Const to constant)) p = wrong (ReplyOf (Got parcel) p) wrong.Kind
got_right parcel (Some (i.Move to from)) p = wrong (ReplyOf (Got parcel) p) wrong.Kind
got_right parcel (Some (i.Copy to from)) p = wrong (ReplyOf (Got parcel) p) wrong.Kind
got_right parcel (Some (i.Borrow to from)) p = wrong (ReplyOf (Got parcel) p) wrong.Kind
got_right parcel (Some (i.Exchange one other)) p = wrong (ReplyOf (Got parcel) p) wrong.Kind
got_right parcel (Some (i.MyProc to)) p = wrong (ReplyOf (Got parcel) p) wrong.Kind
got_right parcel (Some (i.Make to kind tag fields)) p = wrong (ReplyOf (Got parcel) p) wrong.Kind
got_right parcel (Some (i.MakeArray to items)) p = wrong (ReplyOf (Got parcel) p) wrong.Kind
got_right parcel (Some (i.Load to object field)) p = wrong (ReplyOf (Got parcel) p) wrong.Kind
got_right parcel (Some (i.LoadBorrow to object field)) p = wrong (ReplyOf (Got parcel) p) wrong.Kind
got_right parcel (Some (i.Store to object field from)) p = wrong (ReplyOf (Got parcel) p) wrong.Kind
got_right parcel (Some (i.Tag to object)) p = wrong (ReplyOf (Got parcel) p) wrong.Kind
got_right parcel (Some (i.TakeApart to object)) p = wrong (ReplyOf (Got parcel) p) wrong.Kind
got_right parcel (Some (i.Drop from)) p = wrong (ReplyOf (Got parcel) p) wrong.Kind
got_right parcel (Some (i.DropMaybe from)) p = wrong (ReplyOf (Got parcel) p) wrong.Kind
got_right parcel (Some (i.Jump place)) p = wrong (ReplyOf (Got parcel) p) wrong.Kind
got_right parcel (Some (i.JumpIf on place)) p = wrong (ReplyOf (Got parcel) p) wrong.Kind
got_right parcel (Some (i.Invoke to method arguments)) p = wrong (ReplyOf (Got parcel) p) wrong.Kind
got_right parcel (Some (i.InvokeBound to slot arguments)) p = wrong (ReplyOf (Got parcel) p) wrong.Kind
got_right parcel (Some (i.Return from)) p = wrong (ReplyOf (Got parcel) p) wrong.Kind
got_right parcel (Some (i.Prim row to operands)) p = wrong (ReplyOf (Got parcel) p) wrong.Kind
got_right parcel (Some (i.Panic text)) p = wrong (ReplyOf (Got parcel) p) wrong.Kind
got_right parcel (Some (i.Spawn to kind fields)) p = wrong (ReplyOf (Got parcel) p) wrong.Kind
got_right parcel (Some (i.Send process method arguments)) p = wrong (ReplyOf (Got parcel) p) wrong.Kind
got_right parcel (Some (i.Print text)) p = wrong (ReplyOf (Got parcel) p) wrong.Kind
got_right parcel (Some (i.FutureNew future promise)) p = wrong (ReplyOf (Got parcel) p) wrong.Kind
got_right parcel (Some (i.FutureGet to future)) p = value_right to future parcel.values parcel p
got_right parcel (Some (i.PromiseSet promise from)) p = wrong (ReplyOf (Got parcel) p) wrong.Kind

reply_right : (code : Code) (reply : Reply) (p : Process) → Right (ReplyOf reply p) (answered code reply p)
unfolding answered
reply_right code Done p = done_right code p.pending p
reply_right code (Taken method parcel) p = taken_right code method parcel p
reply_right code (Started process) p = started_right process (current code p.frames) p
reply_right code (NewPair future) p = pair_right future (current code p.frames) p
reply_right code (Got parcel) p = got_right parcel (current code p.frames) p

-- what a reply leaves
pub reply-leaves : (code : Code) (reply : Reply) (p q : Process) → answered code reply p ≡ Ok q → ReplyLeaves reply p q
reply-leaves code reply p q is = IfOk-at_ok (ReplyOf reply p) is ((reply_right code reply p).holds)
