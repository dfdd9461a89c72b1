-- What a process of a run comes to next, by how it stands in a world that is ahead of its journal.
use Rattle.std.proofs.Common.{◌≡◌, ◌≤◌, ℕ, true, false, Option, None, Some, List, [], ◌∷◌, ◌++◌, length, sym, ap, ◌∙◌, subst, inl, inr, refl}
use Rattle.ink_base.specs.declared.limits.Limit.TheVariants as limit
use Rattle.ink_base.specs.Actions.{Action, SharedState, as_made, is_enabled}
use Rattle.ink_base.specs.Actions as action
use Rattle.ink_base.specs.Limits.{limit_of}
use Rattle.ink_base.specs.Numbered.{numbered}
use Rattle.ink_law_turns.specs.Ahead.{Led, StandsAt, panicked}
use Rattle.ink_law_turns.specs.Machines.{Machine, Comes, ComesTo, Fails, steps_on}
use Rattle.ink_law_turns.specs.Turns.{Run, Turn, Turns, panic_by}
use Rattle.ink_law_turns.proofs.Determined.{stands_once}
use Rattle.ink_law_turns.proofs.Numbering.{none_some, some_is, numbered_level}
use Rattle.ink_law_turns.proofs.Stepping.{comes_once}
use Rattle.ink_worlds.specs.Standing.{AtHome, EndedBy, StandsFor, panic_in}
use Rattle.ink_worlds.specs.State.{State}
use Rattle.ink_worlds.specs.declared.halt.Halt.{Halt}
use Rattle.ink_worlds.specs.declared.halt.Halt.TheVariants.{Panicked, Events, Local}
use Rattle.ink_worlds.specs.declared.status.Status.{Status}
use Rattle.ink_worlds.specs.declared.status.Status.TheVariants.{Idle, Held}
use Rattle.ink_law_replays.specs.Next.{GoesWrong, at_step, at_reply, IsNext, IsReady, IsAtTake, IsAtGet, IsSpent, PanickedLast, Waits, HasNoTurn}

refuted : true ≡ false → ⊥
refuted e = cc

module _ {P V : Type 0} (m : Machine P V) (limits : List ℕ) where
  -- a process whose next action can't be made makes no turn
  pub next_no_turn : (run : Run P V) (process : ℕ) (wish : Action V) → IsNext m run process wish → is_enabled wish process run.shared ≡ false → HasNoTurn m limits run process
  next_no_turn run process wish next waits new turn =
      let one : turn.p ≡ next.p = some_is turn.p next.p (sym turn.stands ∙ next.stands) in
      let came : ComesTo m turn.p wish next.waiting = subst (λ (x : P). ComesTo m x wish next.waiting) (sym one) next.comes in
      let same : turn.wish ≡ wish = (comes_once m turn.p turn.waiting next.waiting turn.wish wish turn.comes came).0 in
      refuted (sym turn.enabled ∙ (ap (λ (w : Action V). is_enabled w process run.shared) same ∙ waits))

  pub waits_no_turn : (run : Run P V) (process : ℕ) → Waits m run process → HasNoTurn m limits run process
  waits_no_turn run process (inl at) = next_no_turn run process action.Take at.next at.waits
  waits_no_turn run process (inr at) = next_no_turn run process (action.GetFuture at.future) at.next at.waits

  -- nor does one that isn't there, or any behind a panic
  pub absent_no_turn : (run : Run P V) (process : ℕ) → numbered run.processes process ≡ None → HasNoTurn m limits run process
  absent_no_turn run process absent new turn = none_some turn.p (sym absent ∙ turn.stands)

  pub panicked_no_turn : (run : Run P V) (process : ℕ) (panic : ℕ × List ℕ) → run.panic ≡ Some panic → HasNoTurn m limits run process
  panicked_no_turn run process panic made new turn = none_some panic (sym turn.runs ∙ made)

  -- an action that can't be made now is a take or a get
  waits_for : (run : Run P V) (process : ℕ) (wish : Action V) → IsNext m run process wish → is_enabled wish process run.shared ≡ false → Waits m run process
  waits_for run process action.Take next waits = inl (record { next = next; waits = waits })
  waits_for run process (action.Print text) next waits = absurd (refuted waits)
  waits_for run process (action.Spawn kind given) next waits = absurd (refuted waits)
  waits_for run process (action.Send to method values) next waits = absurd (refuted waits)
  waits_for run process action.NewFuture next waits = absurd (refuted waits)
  waits_for run process (action.SetFuture future value) next waits = absurd (refuted waits)
  waits_for run process (action.BreakFuture future) next waits = absurd (refuted waits)
  waits_for run process (action.GetFuture future) next waits = inr (record { future = future; next = next; waits = waits })
  waits_for run process (action.Panic text) next waits = absurd (refuted waits)

  -- a process that is led to an action has it next
  led_next : (run : Run P V) (process : ℕ) (q waiting : P) (wish : Action V) → Led m run.processes process q → m.step q ≡ Comes wish waiting → IsNext m run process wish
  led_next run process q waiting wish led comes =
      record { p = led.0; stands = led.1; waiting = waiting; comes = record { steps = m.ran q; before = q; goes = led.2; comes = comes } }

  -- a panic is by the process whose turn it was
  made_by : (made : Action V) (process other : ℕ) (text : List ℕ) → panic_by made process ≡ Some (other, text) → process ≡ other
  made_by (action.Panic told) process other text e = ap (λ (x : ℕ × List ℕ). x.0) (some_is (process, told) (other, text) e)
  made_by action.Take process other text e = absurd (none_some (other, text) e)
  made_by (action.Print told) process other text e = absurd (none_some (other, text) e)
  made_by (action.Spawn kind given) process other text e = absurd (none_some (other, text) e)
  made_by (action.Send to method values) process other text e = absurd (none_some (other, text) e)
  made_by action.NewFuture process other text e = absurd (none_some (other, text) e)
  made_by (action.SetFuture future value) process other text e = absurd (none_some (other, text) e)
  made_by (action.BreakFuture future) process other text e = absurd (none_some (other, text) e)
  made_by (action.GetFuture future) process other text e = absurd (none_some (other, text) e)

  turn_panics : (old new : Run P V) (entry process : ℕ) (text : List ℕ) → Turn m limits entry old new → new.panic ≡ Some (process, text) → entry ≡ process
  turn_panics old new entry process text turn e =
      made_by (as_made turn.wish old.shared limits) entry process text (sym (ap (λ (r : Run P V). r.panic) turn.after) ∙ e)

  -- a panic is the last entry
  last_panics : (journal : List ℕ) (first run : Run P V) (process : ℕ) (text : List ℕ) → first.panic ≡ None → Turns m limits first journal run → run.panic ≡ Some (process, text) → PanickedLast journal run process
  last_panics [] first run process text calm turns e = absurd (none_some (process, text) (sym calm ∙ (ap (λ (r : Run P V). r.panic) turns ∙ e)))
  last_panics (entry ∷ []) first run process text calm turns e =
      let same : turns.0 ≡ run = turns.2 in
      let is : entry ≡ process = turn_panics first turns.0 entry process text turns.1 (ap (λ (r : Run P V). r.panic) same ∙ e) in
      record { earlier = []; last = ap (λ (k : ℕ). k ∷ []) is; text = text; panic = e }
  last_panics (entry ∷ next ∷ journal) first run process text calm turns e =
      let rest = last_panics (next ∷ journal) turns.0 run process text turns.2.1.runs turns.2 e in
      record { earlier = entry ∷ rest.earlier; last = ap (λ (js : List ℕ). entry ∷ js) rest.last; text = rest.text; panic = rest.panic }

  panic_found : (panic : Option (ℕ × List ℕ)) (process : ℕ) → panicked panic ≡ Some process → (text : List ℕ) × (panic ≡ Some (process, text))
  panic_found None process e = absurd (none_some process e)
  panic_found (Some panic) process e = (panic.1, ap (λ (k : ℕ). Some (k, panic.1)) (some_is panic.0 process e))

  module _ (first : Run P V) where
    -- a process whose next step fails goes wrong, and so does one whose reply can't be put
    pub step_wrong : (journal : List ℕ) (run : Run P V) (process : ℕ) (before : P) → Turns m limits first journal run → StandsAt m limits first journal process before → m.step before ≡ Fails → GoesWrong m limits run process
    step_wrong journal run process before turns stood fails =
        let led = stands_once m limits first journal process before run stood turns in
        at_step led.0 before (m.ran before) led.1 led.2 fails

    pub reply_wrong : (journal : List ℕ) (run : Run P V) (process : ℕ) (before waiting : P) (wish : Action V) → Turns m limits first journal run → StandsAt m limits first journal process before → m.step before ≡ Comes wish waiting → is_enabled wish process run.shared ≡ true → m.left (as_made wish run.shared limits) process run.shared waiting ≡ None → GoesWrong m limits run process
    unfolding led_next
    reply_wrong journal run process before waiting wish turns stood comes enabled none =
        let led = stands_once m limits first journal process before run stood turns in
        at_reply wish (led_next run process before waiting wish led comes) enabled none

    -- what stands after a journal and comes to an action has it next
    pub stands_next : (journal : List ℕ) (run : Run P V) (process : ℕ) (before waiting : P) (wish : Action V) → Turns m limits first journal run → StandsAt m limits first journal process before → m.step before ≡ Comes wish waiting → IsNext m run process wish
    stands_next journal run process before waiting wish turns stood comes =
        led_next run process before waiting wish (stands_once m limits first journal process before run stood turns) comes

    pub stands_waits : (journal : List ℕ) (run : Run P V) (process : ℕ) (before waiting : P) (wish : Action V) → Turns m limits first journal run → StandsAt m limits first journal process before → m.step before ≡ Comes wish waiting → is_enabled wish process run.shared ≡ false → Waits m run process
    stands_waits journal run process before waiting wish turns stood comes waits =
        waits_for run process wish (stands_next journal run process before waiting wish turns stood comes) waits

    pub stands_ready : (journal : List ℕ) (run : Run P V) (process : ℕ) (before waiting : P) (wish : Action V) → Turns m limits first journal run → StandsAt m limits first journal process before → m.step before ≡ Comes wish waiting → is_enabled wish process run.shared ≡ true → IsReady m run process
    stands_ready journal run process before waiting wish turns stood comes enabled =
        record { wish = wish; next = stands_next journal run process before waiting wish turns stood comes; enabled = enabled }

    module _ (state : State P V) (stands : StandsFor m limits first state) where
      -- the process of a status, as its steps leave it
      home_at : (process : ℕ) (status : Status) → numbered state.statuses process ≡ Some status → (q : P) × (numbered stands.run.processes process ≡ Some q) × AtHome m state.shared process (Some status) (numbered state.homes process) q
      home_at process status at =
          let found = numbered_level state.statuses stands.run.processes process status stands.statuses at in
          (found.0, found.1, subst (λ (o : Option Status). AtHome m state.shared process o (numbered state.homes process) found.0) at (stands.each process found.0 found.1))

      shared_as : (wish : Action V) (process : ℕ) → is_enabled wish process state.shared ≡ false → is_enabled wish process stands.ahead.turned.shared ≡ false
      shared_as wish process waits = ap (λ (s : SharedState V). is_enabled wish process s) (sym (stands.shared ∙ stands.ahead.shared)) ∙ waits

      pub idle_at_take : (process : ℕ) → numbered state.statuses process ≡ Some Idle → IsAtTake m stands.ahead.turned process
      idle_at_take process at =
          let home = home_at process Idle at in
          record {
            next = led_next stands.ahead.turned process home.0 home.0 action.Take (stands.ahead.each process home.0 home.1) home.2.1;
            waits = shared_as action.Take process home.2.2;
          }

      pub held_at_get : (process future : ℕ) → numbered state.statuses process ≡ Some (Held future) → IsAtGet m stands.ahead.turned process
      held_at_get process future at =
          let home = home_at process (Held future) at in
          record {
            future = future;
            next = led_next stands.ahead.turned process home.0 home.0 (action.GetFuture future) (stands.ahead.each process home.0 home.1) home.2.1;
            waits = shared_as (action.GetFuture future) process home.2.2;
          }

      shared_is : state.shared ≡ stands.ahead.turned.shared
      shared_is = stands.shared ∙ stands.ahead.shared

      -- what ended the world, by its name
      abbrev Ended : Option Halt → Type 0
      Ended halt = EndedBy m limits first state.journal state.shared halt

      pub full_ready : (process : ℕ) → state.halt ≡ Some (Events process) → (limit_of limit.Events limits ≤ length state.journal) × IsReady m stands.ahead.turned process
      full_ready process halt =
          let ended : Ended (Some (Events process)) = subst (λ (h : Option Halt). Ended h) halt stands.ended in
          let can = ended.1 in
          (ended.0, stands_ready state.journal stands.ahead.turned process can.before can.waiting can.wish stands.ahead.turns can.stood can.comes (ap (λ (s : SharedState V). is_enabled can.wish process s) (sym shared_is) ∙ can.enabled))

      pub over_spent : (process steps : ℕ) → state.halt ≡ Some (Local process steps) → (steps ≡ limit_of limit.Local limits) × IsSpent m stands.ahead.turned process steps
      over_spent process steps halt =
          let ended : Ended (Some (Local process steps)) = subst (λ (h : Option Halt). Ended h) halt stands.ended in
          let made = ended.1 in
          let led = stands_once m limits first state.journal process made.q stands.ahead.turned made.stood stands.ahead.turns in
          (ended.0, record { p = led.0; stands = led.1; q = made.q; goes = ap (λ (n : ℕ). steps_on m n led.0) (sym made.made) ∙ led.2 })

      pub panic_last : (process : ℕ) → first.panic ≡ None → state.halt ≡ Some (Panicked process) → PanickedLast state.journal stands.ahead.turned process
      panic_last process calm halt =
          let panic : panicked stands.ahead.turned.panic ≡ Some process = ap panicked (sym stands.ahead.panic) ∙ (sym stands.panic ∙ ap panic_in halt) in
          let found = panic_found stands.ahead.turned.panic process panic in
          last_panics state.journal first stands.ahead.turned process found.0 calm stands.ahead.turns found.1

      -- a process that has no status isn't there
      not_there : (process : ℕ) (o : Option P) → numbered state.statuses process ≡ None → numbered stands.ahead.turned.processes process ≡ o → o ≡ None
      not_there process None at is = refl
      not_there process (Some p) at is =
          let found = numbered_level stands.ahead.turned.processes state.statuses process p (sym (stands.statuses ∙ stands.ahead.count)) is in
          absurd (none_some found.0 (sym at ∙ found.1))

      pub absent : (process : ℕ) → numbered state.statuses process ≡ None → numbered stands.ahead.turned.processes process ≡ None
      absent process at = not_there process (numbered stands.ahead.turned.processes process) at refl
