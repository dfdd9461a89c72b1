-- In each run of a code names stand apart, after the turns of a journal and ahead of them.
use Rattle.std.proofs.Common.{◌≡◌, ℕ, zero, suc, ◌+◌, ◌-◌, ◌<◌, ◌≤◌, Bool, true, false, Some, List, [], ◌∷◌, refl, sym, ap, ◌∙◌, arith, inl, inr, ◌⊎◌, slice_get}
use Rattle.std.specs.FinMap.{empty}
use Rattle.std.proofs.lemmas.List.Sums.{sum_by-cons}
use Rattle.std.proofs.lemmas.Option.{none-some, same_Some}
use Rattle.ink_base.specs.declared.ident.ObjectId.{ObjectId}
use Rattle.ink_base.specs.Numbered.{numbered}
use Rattle.ink_code.specs.declared.code.Code.{Code}
use Rattle.ink_code.specs.Owned.{one_if, times_there}
use Rattle.ink_code.specs.Process.{Process, state_name}
use Rattle.ink_code.specs.Runs.{World, no_parcel, begun, opening_world, CodeReplay, begins, turns, CodeAhead, AreAhead}
use Rattle.ink_code.specs.Slice.{steps_on}
use Rattle.ink_heap.proofs.ObjectsLemmas.{is_same, is_same-one}
use Rattle.ink_law_ownership.specs.Leaves.{IsNew}
use Rattle.ink_law_ownership.specs.Names.{times_in_heaps, times_in_world, WasMade, StandApart}
use Rattle.ink_law_ownership.proofs.Counts.{none_in_empty, times_there-put}
use Rattle.ink_law_ownership.proofs.Numbers.{at_place, from_place, place_number, push_was}
use Rattle.ink_law_ownership.proofs.Shared.{times_shared}
use Rattle.ink_law_ownership.proofs.Trace.{NamesAt, Traces, trace}
use Rattle.ink_law_ownership.proofs.Turned.{EachNumbered, IsRested, made_of, was_made, zero_unless, turn_apart, turn_rests}

-- a run as it begins

module _ (code : Code) where
  abbrev first : Process
  first = begun 1 code.main_kind no_parcel

  opening_times : (id : ObjectId) → times_in_world id (opening_world code) ≤ one_if (is_same id (state_name 1))
  opening_times id =
      let put = times_there-put id (state_name 1) (record { kind = code.main_kind; tag = 0; fields = []; count = 0 }) empty in
      let none = none_in_empty id in
      omega arith

  alone : EachNumbered (λ number p. (number ≡ 1) × (p ≡ first)) (first ∷ [])
  alone number p is = told (push_was [] number first p is)
    where
      told : ((number ≡ 1) × (p ≡ first)) ⊎ (numbered {X = Process} [] number ≡ Some p) → (number ≡ 1) × (p ≡ first)
      told (inl one) = one
      told (inr was) = absurd (none-some p (at_place [] number p was).1)

  at_first : (id : ObjectId) (test : Bool) → is_same id (state_name 1) ≡ test → 0 < times_in_world id (opening_world code) → WasMade id (first ∷ [])
  at_first id true is some =
      let name = is_same-one id (state_name 1) is in
      let serial : id.serial ≡ 1 = ap (λ (n : ObjectId). n.serial) name in
      was_made id (first ∷ []) first (ap (λ (n : ObjectId). numbered (first ∷ []) n.process) name) (omega arith)
  at_first id false is some =
      let low = opening_times id in
      let none : one_if (is_same id (state_name 1)) ≡ 0 = ap one_if is in
      absurd (omega arith)

  at_most_one : (test : Bool) → one_if test ≤ 1
  at_most_one true = omega arith
  at_most_one false = omega arith

  opening_apart : StandApart (opening_world code)
  opening_apart = record {
    once = λ id.
        let low = opening_times id in
        let one = at_most_one (is_same id (state_name 1)) in
        omega arith;
    made = λ id some. at_first id (is_same id (state_name 1)) refl some;
    numbers = λ number p is.
        let one = alone number p is in
        ap (λ (q : Process). q.number) one.1 ∙ sym one.0;
  }

  opening_rests : EachNumbered IsRested (first ∷ [])
  opening_rests number p is = ap (λ (q : Process). q.ran) (alone number p is).1

-- after the turns of a journal

pub replay_apart : (code : Code) (limits journal : List ℕ) (world : World) → CodeReplay code limits journal world → StandApart world
replay_apart code limits _ _ begins = opening_apart code
replay_apart code limits _ _ (turns journal process old new before turn) =
    turn_apart code limits process old new (replay_apart code limits journal old before) turn

replay_rests : (code : Code) (limits journal : List ℕ) (world : World) → CodeReplay code limits journal world → EachNumbered IsRested world.processes
replay_rests code limits _ _ begins = opening_rests code
replay_rests code limits _ _ (turns journal process old new before turn) =
    turn_rests code limits process old new (replay_rests code limits journal old before) turn

-- the steps that a process made since its last action are those that it counts
pub steps-counted : (code : Code) (limits journal : List ℕ) (world : World) → CodeReplay code limits journal world → (number : ℕ) (p q : Process) (steps : ℕ) → numbered world.processes number ≡ Some p → steps_on steps code limits p ≡ Some q → q.ran ≡ steps
steps-counted code limits journal world replay number p q steps stands goes =
    let none = replay_rests code limits journal world replay number p stands in
    let all = (trace steps code limits p q goes).ran in
    omega arith

-- ahead of them

abbrev EachFrom : ℕ → List Process → Type 0
EachFrom first ps = (i : ℕ) (p : Process) → slice_get ps i ≡ Some p → p.number ≡ first + i

record NewIn (id : ObjectId) (ps qs : List Process) : Type 0 where
  place : ℕ
  p : Process
  q : Process
  was : slice_get ps place ≡ Some p
  now : slice_get qs place ≡ Some q
  new : IsNew id p.number p.made q.made

module _ (code : Code) (limits : List ℕ) (id : ObjectId) where
  abbrev HeapsAhead : List Process → List Process → Type 0
  HeapsAhead ps qs =
      (times_in_heaps id qs ≤ times_in_heaps id ps) ⊎ (NewIn id ps qs × (times_in_heaps id qs ≤ times_in_heaps id ps + 1))

  join_heads : (first : ℕ) (p q : Process) (ps qs : List Process) → EachFrom first (p ∷ ps) → NamesAt id p q empty → HeapsAhead ps qs → HeapsAhead (p ∷ ps) (q ∷ qs)
  join_heads first p q ps qs each (inl old) (inl olds) =
      let none = none_in_empty id in
      let one = sum_by-cons (λ (r : Process). times_there id r.objects) p ps in
      let other = sum_by-cons (λ (r : Process). times_there id r.objects) q qs in
      inl (omega arith)
  join_heads first p q ps qs each (inl old) (inr (n, low)) =
      let none = none_in_empty id in
      let one = sum_by-cons (λ (r : Process). times_there id r.objects) p ps in
      let other = sum_by-cons (λ (r : Process). times_there id r.objects) q qs in
      inr (record { place = suc n.place; p = n.p; q = n.q; was = n.was; now = n.now; new = n.new }, omega arith)
  join_heads first p q ps qs each (inr (new, once)) (inl olds) =
      let none = none_in_empty id in
      let one = sum_by-cons (λ (r : Process). times_there id r.objects) p ps in
      let other = sum_by-cons (λ (r : Process). times_there id r.objects) q qs in
      inr (record { place = zero; p = p; q = q; was = refl; now = refl; new = new }, omega arith)
  join_heads first p q ps qs each (inr (new, once)) (inr (n, low)) =
      let here = new.process ∙ each zero p refl in
      let there = n.new.process ∙ each (suc n.place) n.p n.was in
      absurd (omega arith)

  later : (first : ℕ) (p : Process) (ps : List Process) → EachFrom first (p ∷ ps) → EachFrom (first + 1) ps
  later first p ps each i q is = let number = each (suc i) q is in omega arith

  heaps_ahead : (first : ℕ) (ps qs : List Process) → EachFrom first ps → AreAhead code limits ps qs → HeapsAhead ps qs
  heaps_ahead first [] [] each ahead = inl (omega arith)
  heaps_ahead first [] (q ∷ qs) each ahead = absurd ahead
  heaps_ahead first (p ∷ ps) [] each ahead = absurd ahead
  heaps_ahead first (p ∷ ps) (q ∷ qs) each ahead =
      join_heads first p q ps qs each ((trace q.ran code limits p q ahead.0).names.names id) (heaps_ahead (first + 1) ps qs (later first p ps each) ahead.1)

module _ (code : Code) (limits : List ℕ) where
  abbrev Ahead : List Process → List Process → ℕ → Type 0
  Ahead ps qs i = (p : Process) × (q : Process) × (slice_get ps i ≡ Some p) × (slice_get qs i ≡ Some q) × Traces p q q.ran empty

  ahead_of : (ps qs : List Process) (i : ℕ) (p : Process) → AreAhead code limits ps qs → slice_get ps i ≡ Some p → Ahead ps qs i
  ahead_of [] qs i p ahead is = absurd (none-some p is)
  ahead_of (r ∷ ps) [] i p ahead is = absurd ahead
  ahead_of (r ∷ ps) (q ∷ qs) zero p ahead is = (r, q, refl, refl, trace q.ran code limits r q ahead.0)
  ahead_of (r ∷ ps) (q ∷ qs) (suc i) p ahead is = ahead_of ps qs i p ahead.1 is

  behind_of : (ps qs : List Process) (i : ℕ) (q : Process) → AreAhead code limits ps qs → slice_get qs i ≡ Some q → Ahead ps qs i
  behind_of ps [] i q ahead is = absurd (none-some q is)
  behind_of [] (r ∷ qs) i q ahead is = absurd ahead
  behind_of (p ∷ ps) (r ∷ qs) zero q ahead is = (p, r, refl, refl, trace r.ran code limits p r ahead.0)
  behind_of (p ∷ ps) (r ∷ qs) (suc i) q ahead is = behind_of ps qs i q ahead.1 is

  module _ (turned world : World) (apart : StandApart turned) (ahead : AreAhead code limits turned.processes world.processes) (shared : world.shared ≡ turned.shared) where
    numbers_on : (number : ℕ) (q : Process) → numbered world.processes number ≡ Some q → q.number ≡ number
    numbers_on number q is =
        let at = at_place world.processes number q is in
        let a = behind_of turned.processes world.processes (number - 1) q ahead at.1 in
        let same : a.1 ≡ q = same_Some a.1 q (sym a.3 ∙ at.1) in
        ap (λ (r : Process). r.number) (sym same)
        ∙ a.4.number
        ∙ apart.numbers number a.0 (from_place turned.processes number (Some a.0) at.0 a.2)

    made_on : (id : ObjectId) → WasMade id turned.processes → WasMade id world.processes
    made_on id made =
        let p = made_of id turned.processes made in
        let at = at_place turned.processes id.process p.0 p.1 in
        let a = ahead_of turned.processes world.processes (id.process - 1) p.0 ahead at.1 in
        let same : p.0.made ≡ a.0.made = ap (λ (r : Process). r.made) (same_Some p.0 a.0 (sym at.1 ∙ a.2)) in
        let more = a.4.names.made in
        let low = p.2 in
        was_made id world.processes a.1 (from_place world.processes id.process (Some a.1) at.0 a.3) (omega arith)

    each : EachFrom 1 turned.processes
    each i p is =
        let number = apart.numbers (i + 1) p (place_number turned.processes i (Some p) is) in omega arith

    new_number : (id : ObjectId) (n : NewIn id turned.processes world.processes) → n.place + 1 ≡ id.process
    new_number id n =
        let one = n.new.process in
        let other = each n.place n.p n.was in
        omega arith

    new_there : (id : ObjectId) → NewIn id turned.processes world.processes → WasMade id world.processes
    new_there id n =
        was_made id world.processes n.q (ap (numbered world.processes) (sym (new_number id n)) ∙ place_number world.processes n.place (Some n.q) n.now) (n.new.made)

    new_before : (id : ObjectId) → NewIn id turned.processes world.processes → WasMade id turned.processes → ⊥
    new_before id n made =
        let p = made_of id turned.processes made in
        let here = ap (numbered turned.processes) (sym (new_number id n)) ∙ place_number turned.processes n.place (Some n.p) n.was in
        let same : p.0.made ≡ n.p.made = ap (λ (r : Process). r.made) (same_Some p.0 n.p (sym p.1 ∙ here)) in
        let late = n.new.later in
        let low = p.2 in
        omega arith

    none_of : (id : ObjectId) → NewIn id turned.processes world.processes → times_in_world id turned ≡ 0
    none_of id n = zero_unless (times_in_world id turned) (λ some. new_before id n (apart.made id some))

    shared_same : (id : ObjectId) → times_shared id world.shared ≡ times_shared id turned.shared
    shared_same id = ap (times_shared id) shared

    once_on : (id : ObjectId) → HeapsAhead code limits id turned.processes world.processes → times_in_world id world ≤ 1
    once_on id (inl olds) =
        let same = shared_same id in
        let low = apart.once id in
        omega arith
    once_on id (inr (n, more)) =
        let same = shared_same id in
        let none = none_of id n in
        omega arith

    made_at : (id : ObjectId) → HeapsAhead code limits id turned.processes world.processes → 0 < times_in_world id world → WasMade id world.processes
    made_at id (inl olds) some =
        let same = shared_same id in
        made_on id (apart.made id (omega arith))
    made_at id (inr (n, more)) some = new_there id n

    on_apart : StandApart world
    on_apart = record {
      once = λ id. once_on id (heaps_ahead code limits id 1 turned.processes world.processes each ahead);
      made = λ id some. made_at id (heaps_ahead code limits id 1 turned.processes world.processes each ahead) some;
      numbers = numbers_on;
    }

-- ahead of the turns of a journal
pub ahead_apart : (code : Code) (limits journal : List ℕ) (world : World) → CodeAhead code limits journal world → StandApart world
ahead_apart code limits journal world a =
    on_apart code limits a.turned world (replay_apart code limits journal a.turned a.replay) a.ahead a.shared
