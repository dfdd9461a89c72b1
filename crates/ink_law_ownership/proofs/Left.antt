-- What an action that was made leaves of its process and of what processes share.
use Rattle.std.proofs.Common.{◌≡◌, ℕ, ◌+◌, ◌≤◌, Option, Some, None, Result, Ok, Err, refl, ap, subst, arith}
use Rattle.std.proofs.lemmas.Option.{none-some, same_Some}
use Rattle.ink_base.specs.declared.ident.ObjectId.{ObjectId}
use Rattle.ink_base.specs.Actions.{Action, SharedState, after_action}
use Rattle.ink_base.specs.Actions as action
use Rattle.ink_code.specs.declared.code.Code.{Code}
use Rattle.ink_code.specs.declared.wrong.Wrong.{Wrong}
use Rattle.ink_code.specs.Owned.{times_there}
use Rattle.ink_code.specs.Process.{Process}
use Rattle.ink_code.specs.Replies.{Reply, answered}
use Rattle.ink_code.specs.Runs.{reply_of, with_reply, where_right, process_after}
use Rattle.ink_code.specs.Trees.{Parcel}
use Rattle.ink_law_ownership.proofs.Counts.{none_in_empty}
use Rattle.ink_law_ownership.proofs.Replied.{reply-leaves}
use Rattle.ink_law_ownership.proofs.Shared.{times_shared, added, shared_after}

pub record LeftBy (made : Action Parcel) (process : ℕ) (shared : SharedState Parcel) (waiting left : Process) : Type 0 where
  pub number : left.number ≡ waiting.number
  pub kind : left.kind ≡ waiting.kind
  pub ran : left.ran ≡ 0
  pub made_as_many : left.made ≡ waiting.made
  pub names : (id : ObjectId) → times_there id left.objects + times_shared id (after_action made process shared) ≤ times_there id waiting.objects + times_shared id shared + times_there id (added made)

right_one : (outcome : Result Process Wrong) (q : Process) → where_right outcome ≡ Some q → outcome ≡ Ok q
right_one (Err why) q is = absurd (none-some q is)
right_one (Ok p) q is = ap (λ (r : Process). Ok r) (same_Some p q is)

left_by_reply : (code : Code) (made : Action Parcel) (process : ℕ) (shared : SharedState Parcel) (waiting left : Process) (found : Option Reply) → reply_of made process shared ≡ found → with_reply code found waiting ≡ Some left → LeftBy made process shared waiting left
left_by_reply code made process shared waiting left None is put = absurd (none-some left put)
left_by_reply code made process shared waiting left (Some reply) is put =
    let l = reply-leaves code reply waiting left (right_one (answered code reply waiting) left put) in
    record {
      number = l.number;
      kind = l.kind;
      ran = l.ran;
      made_as_many = l.made;
      names = λ id.
          let one = l.names id in
          let other = shared_after id made process shared reply is in
          omega arith;
    }

pub left_by : (code : Code) (made : Action Parcel) (process : ℕ) (shared : SharedState Parcel) (waiting left : Process) → process_after code made process shared waiting ≡ Some left → LeftBy made process shared waiting left
unfolding process_after
left_by code (action.Panic text) process shared waiting left put =
    subst (λ (q : Process). LeftBy (action.Panic text) process shared waiting q) (same_Some (record waiting { ran = 0 }) left put) (record {
      number = refl;
      kind = refl;
      ran = refl;
      made_as_many = refl;
      names = λ id. let none = none_in_empty id in omega arith;
    })
left_by code action.Take process shared waiting left put = left_by_reply code action.Take process shared waiting left _ refl put
left_by code (action.Print text) process shared waiting left put = left_by_reply code (action.Print text) process shared waiting left _ refl put
left_by code (action.Spawn kind parcel) process shared waiting left put = left_by_reply code (action.Spawn kind parcel) process shared waiting left _ refl put
left_by code (action.Send to method parcel) process shared waiting left put = left_by_reply code (action.Send to method parcel) process shared waiting left _ refl put
left_by code action.NewFuture process shared waiting left put = left_by_reply code action.NewFuture process shared waiting left _ refl put
left_by code (action.SetFuture number parcel) process shared waiting left put = left_by_reply code (action.SetFuture number parcel) process shared waiting left _ refl put
left_by code (action.BreakFuture number) process shared waiting left put = left_by_reply code (action.BreakFuture number) process shared waiting left _ refl put
left_by code (action.GetFuture number) process shared waiting left put = left_by_reply code (action.GetFuture number) process shared waiting left _ refl put
