-- Replays of a code and what is ahead of them, in the words of turns.
use Rattle.std.proofs.Common.{◌≡◌, ℕ, zero, suc, ◌+◌, true, Option, None, Some, Ok, Err, List, [], ◌∷◌, ◌++◌, length, refl, ap, sym, ◌∙◌, subst, append_assoc, arith, slice_get}
use Rattle.std.proofs.lemmas.List.{append-nil}
use Rattle.ink_base.specs.Actions.{Action, SharedState, is_enabled, as_made, after_action}
use Rattle.ink_base.specs.Actions as action
use Rattle.ink_base.specs.Numbered.{numbered, set_numbered}
use Rattle.ink_code.specs.declared.code.Code.{Code}
use Rattle.ink_code.specs.Machine.{Outcome, Went, Wants, Panics, Spent}
use Rattle.ink_code.specs.Process.{Process}
use Rattle.ink_code.specs.Runs.{World, begun, opening_world, process_after, CodeTurn, CodeReplay, begins, turns, CodeAhead, AreAhead, HasPanicked}
use Rattle.ink_code.specs.Runs as runs
use Rattle.ink_code.specs.Slice.{gone_on, next_on, wish_of, wanted}
use Rattle.ink_code.specs.Slice as slice
use Rattle.ink_code.specs.Step.{free_step}
use Rattle.ink_code.specs.Trees.{Parcel}
use Rattle.ink_law_runs.specs.CodeMachine.{move_of, code_machine, run_of, opening_run}
use Rattle.ink_law_turns.specs.Ahead.{Ahead, Led, panicked}
use Rattle.ink_law_turns.specs.Machines.{Machine, Move, Goes, Comes, gone, then_on, steps_on, ComesTo}
use Rattle.ink_law_turns.specs.Turns.{Run, Turn, Turns, after_made, with_started, panic_by}
use Rattle.ink_law_turns.proofs.Determined.{turns_more, turns_once}
use Rattle.ink_law_turns.proofs.Numbering.{none_some, some_is, numbered-suc}

-- one machine's steps are the other's

abbrev Wish : Type 0
Wish = Action Parcel × Process

on_same : (outcome : Outcome) (f g : Process → Option Process) → ((q : Process) → f q ≡ g q) → then_on (gone (move_of outcome)) f ≡ next_on (gone_on outcome) g
on_same (Err why) f g same = refl
on_same (Ok (Went, q)) f g same = same q
on_same (Ok (Wants wish, q)) f g same = refl
on_same (Ok (Panics text, q)) f g same = refl
on_same (Ok (Spent steps, q)) f g same = refl

comes_one : (wish want : Action Parcel) (w q : Process) → w ≡ q → wish ≡ want → ◌≡◌ {A = Option Wish} (Some (want, q)) (Some (wish, w))
comes_one wish want w q same alike = ap (λ (x : Process). Some (want, x)) (sym same) ∙ ap (λ (a : Action Parcel). Some (a, w)) (sym alike)

wish_here : (outcome : Outcome) (wish : Action Parcel) (w : Process) → move_of outcome ≡ Comes wish w → wish_of outcome ≡ Some (wish, w)
wish_here (Err why) wish w e = absurd (cc)
wish_here (Ok (Went, q)) wish w e = absurd (cc)
wish_here (Ok (Wants want, q)) wish w e =
    let same : q ≡ w = cc in
    let alike : want ≡ wish = cc in
    comes_one wish want w q (sym same) (sym alike)
wish_here (Ok (Panics text, q)) wish w e =
    let same : q ≡ w = cc in
    let alike : ◌≡◌ {A = Action Parcel} (action.Panic text) wish = cc in
    comes_one wish (action.Panic text) w q (sym same) (sym alike)
wish_here (Ok (Spent steps, q)) wish w e = absurd (cc)

came_one : (want wish : Action Parcel) (q w : Process) → ◌≡◌ {A = Wish} (want, q) (wish, w) → Comes want q ≡ Comes wish w
came_one want wish q w pair = ap (λ (x : Wish). Comes x.0 x.1) pair

came_here : (outcome : Outcome) (wish : Action Parcel) (w : Process) → wish_of outcome ≡ Some (wish, w) → move_of outcome ≡ Comes wish w
came_here (Err why) wish w e = absurd (cc)
came_here (Ok (Went, q)) wish w e = absurd (cc)
came_here (Ok (Wants want, q)) wish w e = came_one want wish q w (some_is (want, q) (wish, w) e)
came_here (Ok (Panics text, q)) wish w e = came_one (action.Panic text) wish q w (some_is (action.Panic text, q) (wish, w) e)
came_here (Ok (Spent steps, q)) wish w e = absurd (cc)

panic_same : (made : Action Parcel) (process : ℕ) → runs.panic_by made process ≡ panic_by made process
panic_same (action.Panic text) process = refl
panic_same action.Take process = refl
panic_same (action.Print text) process = refl
panic_same (action.Spawn kind parcel) process = refl
panic_same (action.Send to method parcel) process = refl
panic_same action.NewFuture process = refl
panic_same (action.SetFuture number parcel) process = refl
panic_same (action.BreakFuture number) process = refl
panic_same (action.GetFuture number) process = refl

module _ (code : Code) (limits : List ℕ) where
  abbrev m : Machine Process Parcel
  m = code_machine code limits

  pub steps_same : (steps : ℕ) (p : Process) → steps_on m steps p ≡ slice.steps_on steps code limits p
  unfolding slice.steps_on
  steps_same zero p = refl
  steps_same (suc steps) p = on_same (free_step code limits p.pending p) (λ q. steps_on m steps q) (λ q. slice.steps_on steps code limits q) (λ q. steps_same steps q)

  pub comes_to : (p waiting : Process) (wish : Action Parcel) → slice.ComesTo code limits p wish waiting → ComesTo m p wish waiting
  comes_to p waiting wish c = record {
    steps = c.steps;
    before = c.before;
    goes = steps_same c.steps p ∙ c.goes;
    comes = came_here (free_step code limits c.before.pending c.before) wish waiting c.wants;
  }

  pub comes_from : (p waiting : Process) (wish : Action Parcel) → ComesTo m p wish waiting → slice.ComesTo code limits p wish waiting
  comes_from p waiting wish c = record {
    steps = c.steps;
    before = c.before;
    goes = sym (steps_same c.steps p) ∙ c.goes;
    wants = wish_here (free_step code limits c.before.pending c.before) wish waiting c.comes;
  }

  started_same : (made : Action Parcel) (processes : List Process) → runs.with_started made processes ≡ with_started m made processes
  started_same (action.Spawn kind parcel) processes = refl
  started_same (action.Panic text) processes = refl
  started_same action.Take processes = refl
  started_same (action.Print text) processes = refl
  started_same (action.Send to method parcel) processes = refl
  started_same action.NewFuture processes = refl
  started_same (action.SetFuture number parcel) processes = refl
  started_same (action.BreakFuture number) processes = refl
  started_same (action.GetFuture number) processes = refl

  -- a run with these processes and this panic
  abbrev with_parts : List Process → SharedState Parcel → Option (ℕ × List ℕ) → Run Process Parcel
  with_parts processes shared panic = record { processes = processes; shared = shared; panic = panic }

  after_same : (made : Action Parcel) (process : ℕ) (left : Process) (old : World) → run_of (runs.after_made made process left old) ≡ after_made m made process left (run_of old)
  unfolding runs.after_made
  after_same made process left old =
      ap (λ (ps : List Process). with_parts ps (after_action made process old.shared) (runs.panic_by made process)) (started_same made (set_numbered old.processes process left))
      ∙ ap (λ (o : Option (ℕ × List ℕ)). with_parts (with_started m made (set_numbered old.processes process left)) (after_action made process old.shared) o) (panic_same made process)

  pub turn_here : (process : ℕ) (old new : World) → CodeTurn code limits process old new → Turn m limits process (run_of old) (run_of new)
  turn_here process old new t = record {
    runs = t.runs;
    p = t.next.p;
    stands = t.next.stands;
    wish = t.wish;
    waiting = t.waiting;
    comes = comes_to t.next.p t.waiting t.wish t.next.comes;
    enabled = t.enabled;
    left = t.left;
    replied = t.replied;
    after = ap run_of t.after ∙ after_same (as_made t.wish old.shared limits) process t.left old;
  }

  abbrev world_of : Run Process Parcel → World
  world_of run = record { processes = run.processes; shared = run.shared; panic = run.panic }

  pub turn_back : (process : ℕ) (old new : World) → Turn m limits process (run_of old) (run_of new) → CodeTurn code limits process old new
  turn_back process old new t = record {
    runs = t.runs;
    wish = t.wish;
    waiting = t.waiting;
    next = record { p = t.p; stands = t.stands; comes = comes_from t.p t.waiting t.wish t.comes };
    enabled = t.enabled;
    left = t.left;
    replied = t.replied;
    after = ap world_of (t.after ∙ sym (after_same (as_made t.wish old.shared limits) process t.left old));
  }

  pub turns_of : (journal : List ℕ) (world : World) → CodeReplay code limits journal world → Turns m limits (opening_run code) journal (run_of world)
  turns_of _ _ begins = refl
  turns_of _ _ (turns journal process old new before turn) =
      turns_more m limits journal process (opening_run code) (run_of old) (run_of new) (turns_of journal old before) (turn_here process old new turn)

  replay_on : (journal before : List ℕ) (old new : World) → CodeReplay code limits before old → Turns m limits (run_of old) journal (run_of new) → CodeReplay code limits (before ++ journal) new
  replay_on [] before old new replay t =
      subst (λ (js : List ℕ). CodeReplay code limits js new) (sym (append-nil before)) (subst (λ (w : World). CodeReplay code limits before w) (ap world_of t) replay)
  replay_on (process ∷ journal) before old new replay t =
      subst (λ (js : List ℕ). CodeReplay code limits js new) (append_assoc before (process ∷ []) journal)
      (replay_on journal (before ++ process ∷ []) (world_of t.0) new (turns before process old (world_of t.0) replay (turn_back process old (world_of t.0) t.1)) t.2)

  pub replay_of : (journal : List ℕ) (world : World) → Turns m limits (opening_run code) journal (run_of world) → CodeReplay code limits journal world
  replay_of journal world t = replay_on journal [] (opening_world code) world begins t

  pub replays_once : (journal : List ℕ) (world other : World) → CodeReplay code limits journal world → CodeReplay code limits journal other → world ≡ other
  replays_once journal world other c d =
      ap world_of (turns_once m limits journal (opening_run code) (run_of world) (run_of other) (turns_of journal world c) (turns_of journal other d))

  -- processes ahead of others, by place and by number

  abbrev EachLed : List Process → List Process → Type 0
  EachLed ts qs = (process : ℕ) (q : Process) → numbered qs process ≡ Some q → Led m ts process q

  abbrev LedAt : List Process → ℕ → Process → Type 0
  LedAt ts i q = (p : Process) × (slice_get ts i ≡ Some p) × (slice.steps_on q.ran code limits p ≡ Some q)

  led_at : (ts qs : List Process) → EachLed ts qs → (i : ℕ) (q : Process) → slice_get qs i ≡ Some q → LedAt ts i q
  led_at ts qs each i q e =
      let led = each (suc i) q (numbered-suc qs i ∙ e) in
      (led.0, sym (numbered-suc ts i) ∙ led.1, sym (steps_same q.ran led.0) ∙ led.2)

  are_ahead : (ts qs : List Process) → length qs ≡ length ts → ((i : ℕ) (q : Process) → slice_get qs i ≡ Some q → LedAt ts i q) → AreAhead code limits ts qs
  are_ahead [] [] count each = tt
  are_ahead [] (q ∷ qs) count each = absurd (omega (arith, count))
  are_ahead (t ∷ ts) [] count each = absurd (omega (arith, count))
  are_ahead (t ∷ ts) (q ∷ qs) count each =
      let led = each zero q refl in
      let same : t ≡ led.0 = some_is t led.0 led.1 in
      (subst (λ (p : Process). slice.steps_on q.ran code limits p ≡ Some q) (sym same) led.2, are_ahead ts qs (omega (arith, count)) (λ i x e. each (suc i) x e))

  ahead_at : (ts qs : List Process) → AreAhead code limits ts qs → (i : ℕ) (q : Process) → slice_get qs i ≡ Some q → LedAt ts i q
  ahead_at [] [] ahead i q e = absurd (none_some q e)
  ahead_at [] (x ∷ qs) ahead i q e = absurd ahead
  ahead_at (t ∷ ts) [] ahead i q e = absurd ahead
  ahead_at (t ∷ ts) (x ∷ qs) ahead zero q e =
      let same : x ≡ q = some_is x q e in
      (t, refl, subst (λ (y : Process). slice.steps_on y.ran code limits t ≡ Some y) same ahead.0)
  ahead_at (t ∷ ts) (x ∷ qs) ahead (suc i) q e = ahead_at ts qs ahead.1 i q e

  ahead_count : (ts qs : List Process) → AreAhead code limits ts qs → length qs ≡ length ts
  ahead_count [] [] ahead = refl
  ahead_count [] (x ∷ qs) ahead = absurd ahead
  ahead_count (t ∷ ts) [] ahead = absurd ahead
  ahead_count (t ∷ ts) (x ∷ qs) ahead = ap suc (ahead_count ts qs ahead.1)

  led_by : (ts qs : List Process) → AreAhead code limits ts qs → EachLed ts qs
  led_by ts qs ahead zero q e = absurd (none_some q e)
  led_by ts qs ahead (suc i) q e =
      let led = ahead_at ts qs ahead i q (sym (numbered-suc qs i) ∙ e) in
      (led.0, numbered-suc ts i ∙ led.1, steps_same q.ran led.0 ∙ led.2)

  panic_number : (panic : Option (ℕ × List ℕ)) (process : ℕ) (world : World) → world.panic ≡ panic → panicked panic ≡ Some process → HasPanicked world process
  panic_number None process world at e = absurd (none_some process e)
  panic_number (Some panic) process world at e = subst (λ (o : Option (ℕ × List ℕ)). HasPanicked (record world { panic = o }) process) (sym at) (some_is panic.0 process e)

  number_panic : (panic : Option (ℕ × List ℕ)) (process : ℕ) (world : World) → world.panic ≡ panic → HasPanicked world process → panicked panic ≡ Some process
  number_panic None process world at has = absurd (subst (λ (o : Option (ℕ × List ℕ)). HasPanicked (record world { panic = o }) process) at has)
  number_panic (Some panic) process world at has =
      ap (λ (i : ℕ). Some i) (subst (λ (o : Option (ℕ × List ℕ)). HasPanicked (record world { panic = o }) process) at has)

  pub ahead_of : (journal : List ℕ) (world : World) → CodeAhead code limits journal world → Ahead m limits (opening_run code) journal (run_of world)
  ahead_of journal world a = record {
    turned = run_of a.turned;
    turns = turns_of journal a.turned a.replay;
    count = ahead_count a.turned.processes world.processes a.ahead;
    each = led_by a.turned.processes world.processes a.ahead;
    shared = a.shared;
    panic = a.panic;
    rests = λ process e. a.stays process (panic_number a.turned.panic process a.turned refl (sym (ap panicked a.panic) ∙ e));
  }

  pub ahead_back : (journal : List ℕ) (world : World) → Ahead m limits (opening_run code) journal (run_of world) → CodeAhead code limits journal world
  ahead_back journal world a = record {
    turned = world_of a.turned;
    replay = replay_of journal (world_of a.turned) a.turns;
    ahead = are_ahead a.turned.processes world.processes a.count (led_at a.turned.processes world.processes a.each);
    stays = λ process has. a.rests process (ap panicked a.panic ∙ number_panic a.turned.panic process (world_of a.turned) refl has);
    shared = a.shared;
    panic = a.panic;
  }
