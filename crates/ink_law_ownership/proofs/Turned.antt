-- A turn keeps apart what stands apart.
use Rattle.std.proofs.Common.{◌≡◌, ℕ, zero, suc, ◌+◌, ◌<◌, ◌≤◌, Bool, true, false, Option, Some, None, List, [], ◌∷◌, ◌++◌, length, refl, sym, ap, ◌∙◌, subst, arith, inl, inr, ◌⊎◌}
use Rattle.std.specs.Prelude.{IsSomeAnd}
use Rattle.std.specs.FinMap.{empty}
use Rattle.std.proofs.lemmas.List.Sums.{sum_by_push}
use Rattle.std.proofs.lemmas.Option.{same_Some}
use Rattle.ink_base.specs.declared.ident.ObjectId.{ObjectId}
use Rattle.ink_base.specs.Actions.{Action, SharedState, as_made, panic_of, panic_or, after_action}
use Rattle.ink_base.specs.Actions as action
use Rattle.ink_base.specs.Numbered.{numbered, set_numbered}
use Rattle.ink_base.specs.Objects.{Objects}
use Rattle.ink_code.specs.declared.code.Code.{Code}
use Rattle.ink_code.specs.Owned.{one_if, times_there}
use Rattle.ink_code.specs.Process.{Process, state_name}
use Rattle.ink_code.specs.Runs.{World, begun, with_started, after_made, CodeTurn}
use Rattle.ink_code.specs.Trees.{Parcel}
use Rattle.ink_heap.proofs.ObjectsLemmas.{is_same, is_same-one}
use Rattle.ink_law_ownership.specs.Leaves.{IsNew, KeepsNames, carried}
use Rattle.ink_law_ownership.specs.Names.{times_in_heaps, times_in_world, WasMade, StandApart}
use Rattle.ink_law_ownership.proofs.Counts.{none_in_empty, times_there-put}
use Rattle.ink_law_ownership.proofs.Left.{LeftBy, left_by}
use Rattle.ink_law_ownership.proofs.Numbers.{sum-set_numbered, length-set_numbered, number_within, set_was, set_is, set_here, push_was, push_is, push_last}
use Rattle.ink_law_ownership.proofs.Shared.{times_shared, added}
use Rattle.ink_law_ownership.proofs.Trace.{NamesAt, came}

-- the objects with which an action starts a process
abbrev spawned : Action Parcel → Objects
spawned (action.Spawn kind parcel) = parcel.objects
spawned other = empty

-- whether a name is that of the state of a process that an action starts
abbrev is_started : Action Parcel → ℕ → ObjectId → Bool
is_started (action.Spawn kind parcel) count id = is_same id (state_name (count + 1))
is_started other count id = false

-- an action starts a process, or none
record StartsNone (made : Action Parcel) : Type 0 where
  none : (processes : List Process) → with_started made processes ≡ processes
  nothing : spawned made ≡ empty
  no_state : (count : ℕ) (id : ObjectId) → is_started made count id ≡ false

record StartsOne (made : Action Parcel) : Type 0 where
  kind : ℕ
  parcel : Parcel
  is : made ≡ action.Spawn kind parcel

starts : (made : Action Parcel) → StartsOne made ⊎ StartsNone made
starts (action.Spawn kind parcel) = inl (record { kind = kind; parcel = parcel; is = refl })
starts action.Take = inr (record { none = λ ps. refl; nothing = refl; no_state = λ count id. refl })
starts (action.Print text) = inr (record { none = λ ps. refl; nothing = refl; no_state = λ count id. refl })
starts (action.Send to method parcel) = inr (record { none = λ ps. refl; nothing = refl; no_state = λ count id. refl })
starts action.NewFuture = inr (record { none = λ ps. refl; nothing = refl; no_state = λ count id. refl })
starts (action.SetFuture number parcel) = inr (record { none = λ ps. refl; nothing = refl; no_state = λ count id. refl })
starts (action.BreakFuture number) = inr (record { none = λ ps. refl; nothing = refl; no_state = λ count id. refl })
starts (action.GetFuture number) = inr (record { none = λ ps. refl; nothing = refl; no_state = λ count id. refl })
starts (action.Panic text) = inr (record { none = λ ps. refl; nothing = refl; no_state = λ count id. refl })

-- what an action starts and what it adds is what it carries, if it is made at all
both_carried : (id : ObjectId) (wish : Action Parcel) → times_there id (added wish) + times_there id (spawned wish) ≤ times_there id (carried wish)
both_carried id (action.Spawn kind parcel) = let none = none_in_empty id in omega arith
both_carried id (action.Send to method parcel) = let none = none_in_empty id in omega arith
both_carried id (action.SetFuture number parcel) = let none = none_in_empty id in omega arith
both_carried id action.Take = let none = none_in_empty id in omega arith
both_carried id (action.Print text) = let none = none_in_empty id in omega arith
both_carried id action.NewFuture = let none = none_in_empty id in omega arith
both_carried id (action.BreakFuture number) = let none = none_in_empty id in omega arith
both_carried id (action.GetFuture number) = let none = none_in_empty id in omega arith
both_carried id (action.Panic text) = let none = none_in_empty id in omega arith

made_carried : (id : ObjectId) (wish : Action Parcel) (text : Option (List ℕ)) → times_there id (added (panic_or text wish)) + times_there id (spawned (panic_or text wish)) ≤ times_there id (carried wish)
made_carried id wish None = both_carried id wish
made_carried id wish (Some text) = let none = none_in_empty id in omega arith

-- processes with the one that was started

-- something holds of each process and its number
abbrev pub EachNumbered : (ℕ → Process → Type 0) → List Process → Type 0
EachNumbered Q processes = (number : ℕ) (p : Process) → numbered processes number ≡ Some p → Q number p

abbrev pub HasNumber : ℕ → Process → Type 0
HasNumber number p = p.number ≡ number

abbrev pub IsRested : ℕ → Process → Type 0
IsRested number p = p.ran ≡ 0

started_sum : (id : ObjectId) (made : Action Parcel) (processes : List Process) → times_in_heaps id (with_started made processes) ≤ times_in_heaps id processes + times_there id (spawned made) + one_if (is_started made (length processes) id)
started_sum id made processes = at (starts made)
  where
    at : StartsOne made ⊎ StartsNone made → times_in_heaps id (with_started made processes) ≤ times_in_heaps id processes + times_there id (spawned made) + one_if (is_started made (length processes) id)
    at (inr s) = let same = ap (times_in_heaps id) (s.none processes) in omega arith
    at (inl s) = subst (λ (m : Action Parcel). times_in_heaps id (with_started m processes) ≤ times_in_heaps id processes + times_there id (spawned m) + one_if (is_started m (length processes) id)) (sym s.is) (one s.kind s.parcel)
      where
        one : (kind : ℕ) (parcel : Parcel) → times_in_heaps id (processes ++ begun (length processes + 1) kind parcel ∷ []) ≤ times_in_heaps id processes + times_there id parcel.objects + one_if (is_same id (state_name (length processes + 1)))
        one kind parcel =
            let more = sum_by_push (λ (p : Process). times_there id p.objects) processes (begun (length processes + 1) kind parcel) in
            let put = times_there-put id (state_name (length processes + 1)) (record { kind = kind; tag = 0; fields = parcel.values; count = 0 }) parcel.objects in
            omega arith

started_stays : (made : Action Parcel) (processes : List Process) (number : ℕ) (p : Process) → numbered processes number ≡ Some p → numbered (with_started made processes) number ≡ Some p
started_stays made processes number p is = at (starts made)
  where
    at : StartsOne made ⊎ StartsNone made → numbered (with_started made processes) number ≡ Some p
    at (inr s) = ap (λ ps. numbered ps number) (s.none processes) ∙ is
    at (inl s) =
        ap (λ (m : Action Parcel). numbered (with_started m processes) number) s.is
        ∙ push_is processes number (begun (length processes + 1) s.kind s.parcel) p is

started_each : (Q : ℕ → Process → Type 0) (made : Action Parcel) (processes : List Process) → ((kind : ℕ) (parcel : Parcel) → Q (length processes + 1) (begun (length processes + 1) kind parcel)) → EachNumbered Q processes → EachNumbered Q (with_started made processes)
started_each Q made processes new all = at (starts made)
  where
    at : StartsOne made ⊎ StartsNone made → EachNumbered Q (with_started made processes)
    at (inr s) = subst (EachNumbered Q) (sym (s.none processes)) all
    at (inl s) = subst (λ (m : Action Parcel). EachNumbered Q (with_started m processes)) (sym s.is) (λ number p is.
        told number p (push_was processes number (begun (length processes + 1) s.kind s.parcel) p is))
      where
        told : (number : ℕ) (p : Process) → ((number ≡ length processes + 1) × (p ≡ begun (length processes + 1) s.kind s.parcel)) ⊎ (numbered processes number ≡ Some p) → Q number p
        told number p (inl (at, one)) =
            subst (λ (n : ℕ). Q n p) (sym at) (subst (λ (q : Process). Q (length processes + 1) q) (sym one) (new s.kind s.parcel))
        told number p (inr was) = all number p was

set_each : (Q : ℕ → Process → Type 0) (processes : List Process) (n : ℕ) (p left : Process) → numbered processes n ≡ Some p → Q n left → EachNumbered Q processes → EachNumbered Q (set_numbered processes n left)
set_each Q processes n p left stands new all m q is = told (set_was processes n m p left q stands is)
  where
    told : ((m ≡ n) × (q ≡ left)) ⊎ (numbered processes m ≡ Some q) → Q m q
    told (inl (at, one)) =
        subst (λ (k : ℕ). Q k q) (sym at) (subst (λ (r : Process). Q n r) (sym one) new)
    told (inr was) = all m q was

started_name : (made : Action Parcel) (count : ℕ) (id : ObjectId) → is_started made count id ≡ true → id ≡ state_name (count + 1)
started_name made count id is = at (starts made)
  where
    at : StartsOne made ⊎ StartsNone made → id ≡ state_name (count + 1)
    at (inr s) = let none = s.no_state count id in absurd (cc)
    at (inl s) =
        let one : is_same id (state_name (count + 1)) ≡ true = ap (λ (m : Action Parcel). is_started m count id) (sym s.is) ∙ is in
        is_same-one id (state_name (count + 1)) one

-- names that were made

found_made : (id : ObjectId) (found : Option Process) → IsSomeAnd found (λ p. id.serial ≤ p.made) → (p : Process) × (found ≡ Some p) × (id.serial ≤ p.made)
found_made id None made = absurd made
found_made id (Some p) made = (p, refl, made)

pub made_of : (id : ObjectId) (processes : List Process) → WasMade id processes → (p : Process) × (numbered processes id.process ≡ Some p) × (id.serial ≤ p.made)
made_of id processes made = found_made id (numbered processes id.process) made

pub was_made : (id : ObjectId) (processes : List Process) (p : Process) → numbered processes id.process ≡ Some p → id.serial ≤ p.made → WasMade id processes
was_made id processes p is low = subst (λ found. IsSomeAnd found (λ q. id.serial ≤ q.made)) (sym is) low

started_made : (made : Action Parcel) (processes : List Process) (id : ObjectId) → is_started made (length processes) id ≡ true → WasMade id (with_started made processes)
started_made made processes id is = at (starts made)
  where
    at : StartsOne made ⊎ StartsNone made → WasMade id (with_started made processes)
    at (inr s) = let none = s.no_state (length processes) id in absurd (cc)
    at (inl s) =
        let name = started_name made (length processes) id is in
        let state = begun (length processes + 1) s.kind s.parcel in
        let stands : numbered (with_started made processes) id.process ≡ Some state =
        ap (λ (m : Action Parcel). numbered (with_started m processes) id.process) s.is
        ∙ ap (λ (n : ObjectId). numbered (processes ++ state ∷ []) n.process) name
        ∙ push_last processes state in
        let first : id.serial ≡ 1 = ap (λ (n : ObjectId). n.serial) name in
        was_made id (with_started made processes) state stands (omega arith)

pub zero_unless : (n : ℕ) → (0 < n → ⊥) → n ≡ 0
zero_unless zero none = refl
zero_unless (suc n) none = absurd (none (omega arith))

-- an action that a process made, which came to it from where it stood
module _ (old : World) (n : ℕ) (p waiting left : Process) (made : Action Parcel) (out : Objects) (apart : StandApart old) (stands : numbered old.processes n ≡ Some p) (number : waiting.number ≡ p.number) (keeps : KeepsNames p waiting out) (l : LeftBy made n old.shared waiting left) (carries : (id : ObjectId) → times_there id (added made) + times_there id (spawned made) ≤ times_there id out) where
  abbrev others : List Process
  others = set_numbered old.processes n left

  abbrev processes : List Process
  processes = with_started made others

  abbrev times : ObjectId → ℕ
  times id = times_in_heaps id processes + times_shared id (after_action made n old.shared)

  times-sum : (id : ObjectId) → times id + times_there id p.objects ≤ times_in_world id old + (times_there id waiting.objects + times_there id out) + one_if (is_started made (length others) id)
  times-sum id =
      let set = sum-set_numbered (λ (q : Process). times_there id q.objects) old.processes n p left stands in
      let more = started_sum id made others in
      let names = l.names id in
      let both = carries id in
      omega arith

  none_before : (id : ObjectId) → (WasMade id old.processes → ⊥) → times_in_world id old ≡ 0
  none_before id none = zero_unless (times_in_world id old) (λ some. none (apart.made id some))

  same_count : length others ≡ length old.processes
  same_count = length-set_numbered old.processes n p left stands

  new_unmade : (id : ObjectId) → IsNew id p.number p.made waiting.made → WasMade id old.processes → ⊥
  new_unmade id new made_before =
      let q = made_of id old.processes made_before in
      let here : id.process ≡ n = new.process ∙ apart.numbers n p stands in
      let same : p ≡ q.0 = same_Some p q.0 (sym stands ∙ ap (numbered old.processes) (sym here) ∙ q.1) in
      let equal : p.made ≡ q.0.made = ap (λ (r : Process). r.made) same in
      let late = new.later in
      let low = q.2 in
      omega arith

  started_unmade : (id : ObjectId) → is_started made (length others) id ≡ true → WasMade id old.processes → ⊥
  started_unmade id is made_before =
      let q = made_of id old.processes made_before in
      let name = started_name made (length others) id is in
      let process : id.process ≡ length others + 1 = ap (λ (m : ObjectId). m.process) name in
      let low = (number_within old.processes id.process q.0 q.1).1 in
      let same = same_count in
      omega arith

  new_unstarted : (id : ObjectId) → IsNew id p.number p.made waiting.made → is_started made (length others) id ≡ true → ⊥
  new_unstarted id new is =
      let name = started_name made (length others) id is in
      let process : id.process ≡ length others + 1 = ap (λ (m : ObjectId). m.process) name in
      let here : id.process ≡ n = new.process ∙ apart.numbers n p stands in
      let low = (number_within old.processes n p stands).1 in
      let same = same_count in
      omega arith

  once_at : (id : ObjectId) (test : Bool) → is_started made (length others) id ≡ test → NamesAt id p waiting out → times id ≤ 1
  once_at id true is (inl old_name) =
      let none = none_before id (started_unmade id is) in
      let one : one_if (is_started made (length others) id) ≡ 1 = ap one_if is in
      let sum = times-sum id in
      omega arith
  once_at id true is (inr (new, once)) = absurd (new_unstarted id new is)
  once_at id false is (inl old_name) =
      let low = apart.once id in
      let one : one_if (is_started made (length others) id) ≡ 0 = ap one_if is in
      let sum = times-sum id in
      omega arith
  once_at id false is (inr (new, once)) =
      let none = none_before id (new_unmade id new) in
      let one : one_if (is_started made (length others) id) ≡ 0 = ap one_if is in
      let sum = times-sum id in
      omega arith

  left_number : left.number ≡ n
  left_number = l.number ∙ number ∙ apart.numbers n p stands

  set_made : (id : ObjectId) → WasMade id old.processes → WasMade id others
  set_made id made_before =
      let q = made_of id old.processes made_before in
      told q.0 q.1 q.2 (set_is old.processes n id.process p left q.0 stands q.1)
    where
      told : (q : Process) → numbered old.processes id.process ≡ Some q → id.serial ≤ q.made → ((id.process ≡ n) × (numbered others id.process ≡ Some left)) ⊎ (numbered others id.process ≡ Some q) → WasMade id others
      told q is low (inr now) = was_made id others q now low
      told q is low (inl (at, now)) =
          let same : p ≡ q = same_Some p q (sym stands ∙ ap (numbered old.processes) (sym at) ∙ is) in
          let equal : p.made ≡ q.made = ap (λ (r : Process). r.made) same in
          let more = keeps.made in
          let as_many = l.made_as_many in
          was_made id others left now (omega arith)

  started_too : (id : ObjectId) → WasMade id others → WasMade id processes
  started_too id made_before =
      let q = made_of id others made_before in
      was_made id processes q.0 (started_stays made others id.process q.0 q.1) q.2

  new_made : (id : ObjectId) → IsNew id p.number p.made waiting.made → WasMade id others
  new_made id new =
      let here : id.process ≡ n = new.process ∙ apart.numbers n p stands in
      let low = new.made in
      let as_many = l.made_as_many in
      was_made id others left (ap (numbered others) here ∙ set_here old.processes n p left stands) (omega arith)

  made_at : (id : ObjectId) (test : Bool) → is_started made (length others) id ≡ test → NamesAt id p waiting out → 0 < times id → WasMade id processes
  made_at id true is names some = started_made made others id is
  made_at id false is (inl old_name) some =
      let one : one_if (is_started made (length others) id) ≡ 0 = ap one_if is in
      let sum = times-sum id in
      started_too id (set_made id (apart.made id (omega arith)))
  made_at id false is (inr (new, once)) some = started_too id (new_made id new)

  pub after_apart : StandApart (after_made made n left old)
  unfolding after_made
  after_apart = record {
    once = λ id.
        let low = once_at id (is_started made (length others) id) refl (keeps.names id) in
        omega arith;
    made = λ id some. made_at id (is_started made (length others) id) refl (keeps.names id) (omega arith);
    numbers = started_each HasNumber made others (λ kind parcel. refl) (set_each HasNumber old.processes n p left stands left_number apart.numbers);
  }

-- a turn
pub turn_apart : (code : Code) (limits : List ℕ) (process : ℕ) (old new : World) → StandApart old → CodeTurn code limits process old new → StandApart new
turn_apart code limits process old new apart t =
    let made = as_made t.wish old.shared limits in
    let c = came code limits t.next.p t.waiting t.wish t.next.comes in
    let l = left_by code made process old.shared t.waiting t.left t.replied in
    subst StandApart (sym t.after) (after_apart old process t.next.p t.waiting t.left made (carried t.wish) apart t.next.stands c.0 c.2 l (λ id. made_carried id t.wish (panic_of t.wish old.shared limits)))

-- after its action each process counts its steps anew
pub turn_rests : (code : Code) (limits : List ℕ) (process : ℕ) (old new : World) → EachNumbered IsRested old.processes → CodeTurn code limits process old new → EachNumbered IsRested new.processes
unfolding after_made
turn_rests code limits process old new rest t =
    let made = as_made t.wish old.shared limits in
    let l = left_by code made process old.shared t.waiting t.left t.replied in
    subst (λ (w : World). EachNumbered IsRested w.processes) (sym t.after) (started_each IsRested made (set_numbered old.processes process t.left) (λ kind parcel. refl) (set_each IsRested old.processes process t.next.p t.left t.next.stands l.ran rest))
