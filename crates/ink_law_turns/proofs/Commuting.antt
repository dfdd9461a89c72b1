-- What keeps a run ahead of its journal: a process that goes on, and an action. Steps and actions of different processes
-- commute, since each process is read off the turned run by itself.
use Rattle.std.proofs.Common.{◌≡◌, ℕ, ◌+◌, true, Option, None, Some, List, [], ◌∷◌, ◌++◌, length, refl, ap, sym, ◌∙◌, subst, inl, inr, add-one, length-append}
use Rattle.std.proofs.lemmas.Bool.{cases_eq}
use Rattle.ink_base.specs.Actions.{Action, Spawn, Panic, SharedState, is_enabled, as_made, after_action}
use Rattle.ink_base.specs.Numbered.{numbered, set_numbered}
use Rattle.ink_law_turns.specs.Machines.{Machine, Goes, Comes, IsCounted, steps_on}
use Rattle.ink_law_turns.specs.Turns.{Run, Turn, after_made, with_started, panic_by}
use Rattle.ink_law_turns.specs.Ahead.{Led, Ahead, panicked, with_process}
use Rattle.ink_law_turns.proofs.Numbering.{numbered-set_same, numbered-set_other, numbered-append, numbered-append_last, none_some, some_is, length-set_numbered, numbered-set_found, numbered-append_cases}
use Rattle.ink_law_turns.proofs.Stepping.{steps_more}
use Rattle.ink_law_turns.proofs.Determined.{turns_more}

module _ {P V : Type 0} (m : Machine P V) where
  abbrev pub EachLed : List P → List P → Type 0
  EachLed ts ps = (process : ℕ) (q : P) → numbered ps process ≡ Some q → Led m ts process q

  -- a process that is there and counts no step stands at its own beginning
  new_led : (ts : List P) (process : ℕ) (q : P) → numbered ts process ≡ Some q → m.ran q ≡ 0 → Led m ts process q
  new_led ts process q e z = (q, e, ap (λ (n : ℕ). steps_on m n q) z)

  -- one process is replaced in both
  pub led_set : (ts ps : List P) (process : ℕ) (t after : P) → EachLed ts ps → numbered ts process ≡ Some t → m.ran after ≡ 0 → EachLed (set_numbered ts process after) (set_numbered ps process after)
  led_set ts ps process t after each there z other q e =
      elim (cases_eq other process) [
        | inl same ↦ (
            let found : q ≡ after = numbered-set_found ps process after q (subst (λ (i : ℕ). numbered (set_numbered ps process after) i ≡ Some q) same e) in
            let stands : numbered (set_numbered ts process after) other ≡ Some q = ap (λ (i : ℕ). numbered (set_numbered ts process after) i) same ∙ (numbered-set_same ts process after t there ∙ ap (λ (x : P). Some x) (sym found)) in
            new_led (set_numbered ts process after) other q stands (ap m.ran found ∙ z))
        | inr differ ↦ (
            let old = each other q (sym (numbered-set_other ps process other after differ) ∙ e) in
            (old.0, numbered-set_other ts process other after differ ∙ old.1, old.2))
      ]

  -- one process goes on, by steps that count from the turned run
  pub led_put : (ts ps : List P) (process : ℕ) (after : P) → EachLed ts ps → Led m ts process after → EachLed ts (set_numbered ps process after)
  led_put ts ps process after each new other q e =
      elim (cases_eq other process) [
        | inl same ↦ (
            let found : q ≡ after = numbered-set_found ps process after q (subst (λ (i : ℕ). numbered (set_numbered ps process after) i ≡ Some q) same e) in
            subst (λ (x : P). Led m ts other x) (sym found) (subst (λ (i : ℕ). Led m ts i after) (sym same) new))
        | inr differ ↦ each other q (sym (numbered-set_other ps process other after differ) ∙ e)
      ]

  led_append : (ts ps : List P) (b c : P) → length ps ≡ length ts → EachLed ts ps → m.ran b ≡ 0 → b ≡ c → EachLed (ts ++ b ∷ []) (ps ++ c ∷ [])
  led_append ts ps b c count each z same other q e =
      elim (numbered-append_cases ps c q other e) [
        | inl old ↦ (
            let led = each other q old in
            (led.0, numbered-append ts (b ∷ []) other led.0 led.1, led.2))
        | inr new ↦ (
            let is : b ≡ q = same ∙ new.1 in
            let at : other ≡ length ts + 1 = new.0 ∙ ap (λ (n : ℕ). n + 1) count in
            let there : numbered (ts ++ b ∷ []) other ≡ Some q = ap (λ (i : ℕ). numbered (ts ++ b ∷ []) i) at ∙ (numbered-append_last ts b ∙ ap (λ (x : P). Some x) is) in
            new_led (ts ++ b ∷ []) other q there (ap m.ran (sym is) ∙ z))
      ]

  pub led_started : IsCounted m → (made : Action V) (ts ps : List P) → length ps ≡ length ts → EachLed ts ps → EachLed (with_started m made ts) (with_started m made ps)
  led_started counted (Spawn kind fields) ts ps count each =
      led_append ts ps (m.begun (length ts + 1) kind fields) (m.begun (length ps + 1) kind fields) count each (counted.begins (length ts + 1) kind fields) (ap (λ (n : ℕ). m.begun (n + 1) kind fields) (sym count))
  led_started counted other ts ps count each = each

  count_started : (made : Action V) (ts ps : List P) → length ps ≡ length ts → length (with_started m made ps) ≡ length (with_started m made ts)
  count_started (Spawn kind fields) ts ps count =
      length-append ps (m.begun (length ps + 1) kind fields ∷ []) ∙ (ap (λ (n : ℕ). n + 1) count ∙ sym (length-append ts (m.begun (length ts + 1) kind fields ∷ [])))
  count_started other ts ps count = count

  -- the one that an action replaced, after it
  made_there : (made : Action V) (ps : List P) (process : ℕ) (p after : P) → numbered ps process ≡ Some p → numbered (with_started m made (set_numbered ps process after)) process ≡ Some after
  made_there (Spawn kind fields) ps process p after e = numbered-append (set_numbered ps process after) (m.begun (length (set_numbered ps process after) + 1) kind fields ∷ []) process after (numbered-set_same ps process after p e)
  made_there other ps process p after e = numbered-set_same ps process after p e

  panic_is : (made : Action V) (process other : ℕ) → panicked (panic_by made process) ≡ Some other → process ≡ other
  panic_is (Panic text) process other e = some_is process other e
  panic_is made process other e = absurd (none_some other e)

  -- a process that stands so, and goes on by one step
  pub led_goes : IsCounted m → (ts : List P) (process : ℕ) (q r : P) → Led m ts process q → m.step q ≡ Goes r → Led m ts process r
  led_goes counted ts process q r led goes =
      (led.0, led.1, ap (λ (n : ℕ). steps_on m n led.0) (counted.goes q r goes ∙ add-one (m.ran q)) ∙ steps_more m (m.ran q) led.0 q r led.2 goes)

  module _ (limits : List ℕ) (first : Run P V) where
    -- a process that stands so after the journal can stand so in the run
    pub ahead_put : (journal : List ℕ) (run : Run P V) (process : ℕ) (after : P) → (a : Ahead m limits first journal run) → (panicked run.panic ≡ Some process → ⊥) → Led m a.turned.processes process after → Ahead m limits first journal (with_process process after run)
    ahead_put journal run process after a calm led = record {
      turned = a.turned;
      turns = a.turns;
      count = length-set_numbered run.processes process after ∙ a.count;
      each = led_put a.turned.processes run.processes process after a.each led;
      shared = a.shared;
      panic = a.panic;
      rests = λ other e. numbered-set_other run.processes process other after (λ same. calm (e ∙ ap (λ (i : ℕ). Some i) same)) ∙ a.rests other e;
    }

    -- the turn of a process that stands so and comes to an action there
    pub turn_of : (old : Run P V) (process : ℕ) (q w after : P) (wish : Action V) → old.panic ≡ None → Led m old.processes process q → m.step q ≡ Comes wish w → is_enabled wish process old.shared ≡ true → m.left (as_made wish old.shared limits) process old.shared w ≡ Some after → Turn m limits process old (after_made m (as_made wish old.shared limits) process after old)
    turn_of old process q w after wish calm led comes enabled replies = record {
      runs = calm;
      p = led.0;
      stands = led.1;
      wish = wish;
      waiting = w;
      comes = record { steps = m.ran q; before = q; goes = led.2; comes = comes };
      enabled = enabled;
      left = after;
      replied = replies;
      after = refl;
    }

    -- an action, whatever steps the other processes have made
    pub ahead_acts : IsCounted m → (journal : List ℕ) (run : Run P V) (process : ℕ) (q w after : P) (wish : Action V) → (stood : P) → (a : Ahead m limits first journal run) → run.panic ≡ None → numbered run.processes process ≡ Some stood → Led m a.turned.processes process q → m.step q ≡ Comes wish w → is_enabled wish process run.shared ≡ true → m.left (as_made wish run.shared limits) process run.shared w ≡ Some after → Ahead m limits first (journal ++ process ∷ []) (after_made m (as_made wish run.shared limits) process after run)
    unfolding turn_of
    ahead_acts counted journal run process q w after wish stood a calm stands led comes enabled replies =
        let old = a.turned in
        let made : Action V = as_made wish old.shared limits in
        let alike : as_made wish run.shared limits ≡ made = ap (λ (s : SharedState V). as_made wish s limits) a.shared in
        let turn = turn_of old process q w after wish (sym a.panic ∙ calm) led comes (ap (λ (s : SharedState V). is_enabled wish process s) (sym a.shared) ∙ enabled) (ap (λ (s : SharedState V). m.left (as_made wish s limits) process s w) (sym a.shared) ∙ replies) in
        let zero_ran = counted.leaves made process old.shared w after turn.replied in
        let level : length (set_numbered run.processes process after) ≡ length (set_numbered old.processes process after) = length-set_numbered run.processes process after ∙ (a.count ∙ sym (length-set_numbered old.processes process after)) in
        let each = led_started counted made (set_numbered old.processes process after) (set_numbered run.processes process after) level (led_set old.processes run.processes process led.0 after a.each led.1 zero_ran) in
        subst (λ (x : Action V). Ahead m limits first (journal ++ process ∷ []) (after_made m x process after run)) (sym alike) (record {
          turned = after_made m made process after old;
          turns = turns_more m limits journal process first old (after_made m made process after old) a.turns turn;
          count = count_started made (set_numbered old.processes process after) (set_numbered run.processes process after) level;
          each = each;
          shared = ap (λ (s : SharedState V). after_action made process s) a.shared;
          panic = refl;
          rests = λ other e. subst (λ (i : ℕ). numbered (with_started m made (set_numbered run.processes process after)) i ≡ numbered (with_started m made (set_numbered old.processes process after)) i) (panic_is made process other e) (made_there made run.processes process stood after stands ∙ sym (made_there made old.processes process led.0 after led.1));
        })
