-- How often a name stands in unread messages and in futures, as an action leaves them.
use Rattle.std.proofs.Common.{◌≡◌, ℕ, ◌+◌, ◌≤◌, Option, Some, None, List, [], ◌∷◌, length, refl, sym, ap, ◌∙◌, arith}
use Rattle.std.specs.FinMap.{empty}
use Rattle.std.specs.List.{sum_by}
use Rattle.std.proofs.lemmas.List.Sums.{sum_by-cons, sum_by_push}
use Rattle.std.proofs.lemmas.Option.{none-some, same_Some}
use Rattle.ink_base.specs.declared.future.FutureState.{FutureState}
use Rattle.ink_base.specs.declared.future.FutureState.TheVariants as future
use Rattle.ink_base.specs.declared.ident.ObjectId.{ObjectId}
use Rattle.ink_base.specs.Actions.{Action, SharedState, after_action}
use Rattle.ink_base.specs.Actions as action
use Rattle.ink_base.specs.Futures.{Futures, after_set, after_break, after_get, change_at, value_of}
use Rattle.ink_base.specs.Messages.{Mail, Mailbox, Message, empty_mailbox, with_message, without_first, first_of, unread_in, take_from_box, send_to_box}
use Rattle.ink_base.specs.Numbered.{numbered, set_numbered}
use Rattle.ink_base.specs.Objects.{Objects}
use Rattle.ink_code.specs.Owned.{times_there}
use Rattle.ink_code.specs.Replies.{Reply, Done, Taken, Started, NewPair, Got}
use Rattle.ink_code.specs.Runs.{reply_of, message_reply, value_reply, held_by}
use Rattle.ink_code.specs.Trees.{Parcel}
use Rattle.ink_law_ownership.specs.Leaves.{brought}
use Rattle.ink_law_ownership.specs.Names.{times_in_box, times_in_mail, times_in_future, times_in_futures}
use Rattle.ink_law_ownership.proofs.Counts.{none_in_empty}
use Rattle.ink_law_ownership.proofs.Numbers.{sum-set_numbered}

-- how often a name stands in what processes share
abbrev pub times_shared : ObjectId → SharedState Parcel → ℕ
times_shared id shared = times_in_mail id shared.mail + times_in_futures id shared.futures

-- the objects that an action adds to what processes share
abbrev pub added : Action Parcel → Objects
added (action.Send to method parcel) = parcel.objects
added (action.SetFuture number parcel) = parcel.objects
added other = empty

module _ (id : ObjectId) where
  -- mail

  take_front : (mail : Mail Parcel) (process : ℕ) (box : Mailbox Parcel) (unread : List (Message Parcel)) (reply : Reply) → numbered mail process ≡ Some box → box.unread ≡ unread → message_reply (first_of unread) ≡ Some reply → times_in_mail id (set_numbered mail process (record box { unread = without_first unread })) + times_there id (brought reply) ≤ times_in_mail id mail
  take_front mail process box [] reply there is front = absurd (none-some reply front)
  take_front mail process box (first ∷ rest) reply there is front =
      let set = sum-set_numbered (times_in_box id) mail process box (record box { unread = rest }) there in
      let all : times_in_box id box ≡ times_there id first.values.objects + sum_by (λ (m : Message Parcel). times_there id m.values.objects) rest =
      ap (sum_by (λ (m : Message Parcel). times_there id m.values.objects)) is ∙ sum_by-cons (λ (m : Message Parcel). times_there id m.values.objects) first rest in
      let same : times_there id first.values.objects ≡ times_there id (brought reply) =
      ap (λ (r : Reply). times_there id (brought r)) (same_Some (Taken first.method first.values) reply front) in
      omega arith

  take_at : (mail : Mail Parcel) (process : ℕ) (found : Option (Mailbox Parcel)) (reply : Reply) → numbered mail process ≡ found → message_reply (first_of (unread_in found)) ≡ Some reply → times_in_mail id (take_from_box found mail process) + times_there id (brought reply) ≤ times_in_mail id mail
  take_at mail process None reply is front = absurd (none-some reply front)
  take_at mail process (Some box) reply is front = take_front mail process box box.unread reply is refl front

  send_at : (mail : Mail Parcel) (to sender method : ℕ) (parcel : Parcel) (found : Option (Mailbox Parcel)) → numbered mail to ≡ found → times_in_mail id (send_to_box found mail to sender method parcel) ≤ times_in_mail id mail + times_there id parcel.objects
  send_at mail to sender method parcel None is = omega arith
  send_at mail to sender method parcel (Some box) is =
      let new : Message Parcel = record { number = box.sent + 1; sender = sender; method = method; values = parcel } in
      let set = sum-set_numbered (times_in_box id) mail to box (with_message box sender method parcel) is in
      let more : times_in_box id (with_message box sender method parcel) ≡ times_in_box id box + times_there id parcel.objects =
      sum_by_push (λ (m : Message Parcel). times_there id m.values.objects) box.unread new in
      omega arith

  -- futures

  set_one : (state : FutureState Parcel) (parcel : Parcel) → times_in_future id (after_set state parcel) ≤ times_in_future id state + times_there id parcel.objects
  set_one future.Open parcel = omega arith
  set_one (future.Set had) parcel = omega arith
  set_one future.Broken parcel = omega arith
  set_one future.Taken parcel = omega arith

  break_one : (state : FutureState Parcel) → times_in_future id (after_break state) ≤ times_in_future id state
  break_one future.Open = omega arith
  break_one (future.Set had) = omega arith
  break_one future.Broken = omega arith
  break_one future.Taken = omega arith

  get_one : (state : FutureState Parcel) (reply : Reply) → value_reply (value_of state) ≡ Some reply → times_in_future id (after_get state) + times_there id (brought reply) ≤ times_in_future id state
  get_one future.Open reply is = absurd (none-some reply is)
  get_one (future.Set had) reply is =
      let same : times_there id had.objects ≡ times_there id (brought reply) =
      ap (λ (r : Reply). times_there id (brought r)) (same_Some (Got had) reply is) in
      omega arith
  get_one future.Broken reply is = absurd (none-some reply is)
  get_one future.Taken reply is = absurd (none-some reply is)

  set_at : (futures : Futures Parcel) (number : ℕ) (parcel : Parcel) (found : Option (FutureState Parcel)) → numbered futures number ≡ found → times_in_futures id (change_at found futures number (λ state. after_set state parcel)) ≤ times_in_futures id futures + times_there id parcel.objects
  set_at futures number parcel None is = omega arith
  set_at futures number parcel (Some state) is =
      let set = sum-set_numbered (times_in_future id) futures number state (after_set state parcel) is in
      let one = set_one state parcel in
      omega arith

  break_at : (futures : Futures Parcel) (number : ℕ) (found : Option (FutureState Parcel)) → numbered futures number ≡ found → times_in_futures id (change_at found futures number after_break) ≤ times_in_futures id futures
  break_at futures number None is = omega arith
  break_at futures number (Some state) is =
      let set = sum-set_numbered (times_in_future id) futures number state (after_break state) is in
      let one = break_one state in
      omega arith

  get_at : (futures : Futures Parcel) (number : ℕ) (found : Option (FutureState Parcel)) (reply : Reply) → numbered futures number ≡ found → value_reply (held_by found) ≡ Some reply → times_in_futures id (change_at found futures number after_get) + times_there id (brought reply) ≤ times_in_futures id futures
  get_at futures number None reply is got = absurd (none-some reply got)
  get_at futures number (Some state) reply is got =
      let set = sum-set_numbered (times_in_future id) futures number state (after_get state) is in
      let one = get_one state reply got in
      omega arith

  -- a reply that brings nothing
  nothing : (made given : Reply) → Some made ≡ Some given → brought made ≡ empty → times_there id (brought given) ≡ 0
  nothing made given is none =
      ap (λ (r : Reply). times_there id (brought r)) (sym (same_Some made given is)) ∙ ap (times_there id) none ∙ none_in_empty id

  -- what an action takes from there comes with its reply
  pub shared_after : (made : Action Parcel) (process : ℕ) (shared : SharedState Parcel) (reply : Reply) → reply_of made process shared ≡ Some reply → times_shared id (after_action made process shared) + times_there id (brought reply) ≤ times_shared id shared + times_there id (added made)
  unfolding reply_of
  shared_after action.Take process shared reply is =
      let mail = take_at shared.mail process (numbered shared.mail process) reply refl is in
      omega arith
  shared_after (action.Print text) process shared reply is =
      let none = nothing Done reply is refl in
      omega arith
  shared_after (action.Spawn kind parcel) process shared reply is =
      let none = nothing (Started (length shared.mail + 1)) reply is refl in
      let more = sum_by_push (times_in_box id) shared.mail empty_mailbox in
      omega arith
  shared_after (action.Send to method parcel) process shared reply is =
      let none = nothing Done reply is refl in
      let mail = send_at shared.mail to process method parcel (numbered shared.mail to) refl in
      omega arith
  shared_after action.NewFuture process shared reply is =
      let none = nothing (NewPair (length shared.futures + 1)) reply is refl in
      let more = sum_by_push (times_in_future id) shared.futures future.Open in
      omega arith
  shared_after (action.SetFuture number parcel) process shared reply is =
      let none = nothing Done reply is refl in
      let futures = set_at shared.futures number parcel (numbered shared.futures number) refl in
      omega arith
  shared_after (action.BreakFuture number) process shared reply is =
      let none = nothing Done reply is refl in
      let futures = break_at shared.futures number (numbered shared.futures number) refl in
      omega arith
  shared_after (action.GetFuture number) process shared reply is =
      let futures = get_at shared.futures number (numbered shared.futures number) reply refl is in
      omega arith
  shared_after (action.Panic text) process shared reply is = absurd (none-some reply is)
