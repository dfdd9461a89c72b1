-- What a reply brings to a process has other names than its objects, where names stand apart.
use Rattle.std.proofs.Common.{◌≡◌, ℕ, zero, suc, ◌+◌, ◌-◌, ◌≤◌, Option, Some, None, List, [], ◌∷◌, refl, sym, ap, ◌∙◌, arith, slice_get}
use Rattle.std.specs.Prelude.{IsSome}
use Rattle.std.specs.Option.{is_some}
use Rattle.std.specs.List.{sum_by}
use Rattle.std.specs.FinMap.{get}
use Rattle.std.proofs.lemmas.List.Sums.{sum_by-cons}
use Rattle.std.proofs.lemmas.Option.{none-some, same_Some}
use Rattle.ink_base.specs.declared.future.FutureState.{FutureState}
use Rattle.ink_base.specs.declared.future.FutureState.TheVariants as future
use Rattle.ink_base.specs.declared.ident.ObjectId.{ObjectId}
use Rattle.ink_base.specs.declared.object.Object.{Object}
use Rattle.ink_base.specs.Futures.{value_of}
use Rattle.ink_base.specs.Messages.{Mailbox, Message, first_of, unread_in, front_of}
use Rattle.ink_base.specs.Numbered.{numbered}
use Rattle.ink_base.specs.Objects.{Objects}
use Rattle.ink_code.specs.Owned.{one_if, times_there}
use Rattle.ink_code.specs.Process.{Process, next_id}
use Rattle.ink_code.specs.Runs.{World, held_by}
use Rattle.ink_code.specs.Trees.{Parcel}
use Rattle.ink_parcel.specs.Parts.{AreApartFrom}
use Rattle.ink_parcel.proofs.OwnedLemmas.{times_there-none}
use Rattle.ink_law_ownership.specs.Names.{times_in_box, times_in_mail, times_in_future, times_in_futures, times_in_heaps, times_in_world, StandApart}
use Rattle.ink_law_ownership.proofs.Numbers.{at_place}
use Rattle.ink_law_ownership.proofs.Turned.{made_of, zero_unless}

le_sum : {X : Type 0} (f : X → ℕ) (xs : List X) (i : ℕ) (x : X) → slice_get xs i ≡ Some x → f x ≤ sum_by f xs
le_sum f [] i x is = absurd (none-some x is)
le_sum f (z ∷ xs) zero x is =
    let same = ap f (same_Some z x is) in
    let all = sum_by-cons f z xs in
    omega arith
le_sum f (z ∷ xs) (suc i) x is =
    let low = le_sum f xs i x is in
    let all = sum_by-cons f z xs in
    omega arith

numbered_le : {X : Type 0} (f : X → ℕ) (xs : List X) (n : ℕ) (x : X) → numbered xs n ≡ Some x → f x ≤ sum_by f xs
numbered_le f xs n x is = le_sum f xs (n - 1) x (at_place xs n x is).1

pub there_once : (found : Option Object) → IsSome found → one_if (is_some found) ≡ 1
there_once None there = absurd (cc)
there_once (Some object) there = refl

apart_from : (objects part : Objects) → ((id : ObjectId) → times_there id objects + times_there id part ≤ 1) → AreApartFrom objects part
apart_from objects part low id there =
    let one = there_once (get part id) there in
    let both = low id in
    times_there-none id objects (omega arith)

front_le : (id : ObjectId) (unread : List (Message Parcel)) (message : Message Parcel) → first_of unread ≡ Some message → times_there id message.values.objects ≤ sum_by (λ (m : Message Parcel). times_there id m.values.objects) unread
front_le id [] message is = absurd (none-some message is)
front_le id (first ∷ rest) message is = le_sum (λ (m : Message Parcel). times_there id m.values.objects) (first ∷ rest) zero message is

box_le : (id : ObjectId) (world : World) (number : ℕ) (found : Option (Mailbox Parcel)) (message : Message Parcel) → numbered world.shared.mail number ≡ found → first_of (unread_in found) ≡ Some message → times_there id message.values.objects ≤ times_in_mail id world.shared.mail
box_le id world number None message is front = absurd (none-some message front)
box_le id world number (Some box) message is front =
    let one = front_le id box.unread message front in
    let all = numbered_le (times_in_box id) world.shared.mail number box is in
    omega arith

value_le : (id : ObjectId) (state : FutureState Parcel) (parcel : Parcel) → value_of state ≡ Some parcel → times_there id parcel.objects ≤ times_in_future id state
value_le id future.Open parcel is = absurd (none-some parcel is)
value_le id (future.Set had) parcel is = let same = ap (λ (p : Parcel). times_there id p.objects) (same_Some had parcel is) in omega arith
value_le id future.Broken parcel is = absurd (none-some parcel is)
value_le id future.Taken parcel is = absurd (none-some parcel is)

future_le : (id : ObjectId) (world : World) (number : ℕ) (found : Option (FutureState Parcel)) (parcel : Parcel) → numbered world.shared.futures number ≡ found → held_by found ≡ Some parcel → times_there id parcel.objects ≤ times_in_futures id world.shared.futures
future_le id world number None parcel is held = absurd (none-some parcel held)
future_le id world number (Some state) parcel is held =
    let one = value_le id state parcel held in
    let all = numbered_le (times_in_future id) world.shared.futures number state is in
    omega arith

module _ (world : World) (apart : StandApart world) (number : ℕ) (p : Process) (stands : numbered world.processes number ≡ Some p) where
  pub heap_le : (id : ObjectId) → times_there id p.objects ≤ times_in_heaps id world.processes
  heap_le id = numbered_le (λ (q : Process). times_there id q.objects) world.processes number p stands

  pub message_apart : (message : Message Parcel) → front_of world.shared.mail number ≡ Some message → AreApartFrom p.objects message.values.objects
  message_apart message front = apart_from p.objects message.values.objects (λ id.
      let one = apart.once id in
      let heap = heap_le id in
      let mail = box_le id world number (numbered world.shared.mail number) message refl front in
      omega arith)

  pub value_apart : (future : ℕ) (parcel : Parcel) → held_by (numbered world.shared.futures future) ≡ Some parcel → AreApartFrom p.objects parcel.objects
  value_apart future parcel held = apart_from p.objects parcel.objects (λ id.
      let one = apart.once id in
      let heap = heap_le id in
      let value = future_le id world future (numbered world.shared.futures future) parcel refl held in
      omega arith)

  pub next_nowhere : times_in_world (next_id p) world ≡ 0
  next_nowhere = zero_unless (times_in_world (next_id p) world) (λ some.
      let q = made_of (next_id p) world.processes (apart.made (next_id p) some) in
      let here : p ≡ q.0 = same_Some p q.0 (sym stands ∙ ap (numbered world.processes) (sym (apart.numbers number p stands)) ∙ q.1) in
      let same : p.made ≡ q.0.made = ap (λ (r : Process). r.made) here in
      let low = q.2 in
      omega arith)
