-- A slice leads a process from where it stands after a journal to where it stands when it comes home.
use Rattle.std.proofs.Common.{◌≡◌, ◌<◌, ◌≤◌, ◌+◌, ℕ, zero, suc, Bool, true, false, Option, Some, Result, Ok, Err, List, refl, ap, sym, ◌∙◌, subst, arith, leb-true, leb-false}
use Rattle.std.specs.Prelude.{nat_le}
use Rattle.ink_base.specs.declared.limits.Limit.TheVariants as limit
use Rattle.ink_base.specs.Actions as action
use Rattle.ink_base.specs.Limits.{limit_of}
use Rattle.ink_code.specs.declared.code.Code.{Code}
use Rattle.ink_code.specs.declared.wrong.Wrong.{Wrong}
use Rattle.ink_code.specs.Machine.{Outcome, Stepped, Went, Wants, Panics, Spent, when}
use Rattle.ink_code.specs.Process.{Process}
use Rattle.ink_code.specs.Slice.{goes_on, slice_of}
use Rattle.ink_code.specs.Step.{code_step, free_step}
use Rattle.ink_code.specs.Trees.{Parcel}
use Rattle.ink_law_ownership.proofs.Steps.{step-leaves}
use Rattle.ink_law_runs.specs.CodeMachine.{code_machine, move_of, opening_run}
use Rattle.ink_law_runs.proofs.Counted.{code_is_counted}
use Rattle.ink_law_turns.proofs.Commuting.{led_goes}
use Rattle.ink_law_turns.specs.Ahead.{StandsAt}
use Rattle.ink_law_turns.specs.Machines.{Machine, Fails, Goes}
use Rattle.ink_post.specs.Asks.{ComesAs, ComesOn, came_with, told_came}
use Rattle.ink_post.specs.declared.answer.Came.{Came as OneCame}
use Rattle.ink_post.specs.declared.answer.Came.TheVariants as c
use Rattle.ink_steps.specs.Answers.{action_of}
use Rattle.ink_interp.specs.Slices.{AnswersSlice}
use Rattle.ink_steps.specs.declared.stepped.StepFault.{StepFault}
use Rattle.ink_steps.specs.declared.stepped.StepFault.TheVariants as fault
use Rattle.ink_steps.specs.declared.stepped.Stepped.{Stepped as OneStepped}
use Rattle.ink_steps.specs.declared.stepped.Stepped.TheVariants as stepped
use Rattle.ink_worlds.specs.Standing.{ComesFrom}
use Rattle.ink_worlds.specs.State as w

-- with what a process comes home from a slice that came to this
abbrev came_by : Stepped → w.Came Parcel
came_by Went = w.Went
came_by (Wants wish) = w.Wants wish
came_by (Panics text) = w.Wants (action.Panic text)
came_by (Spent steps) = w.Spent steps

abbrev given : Stepped → Process → Outcome
given came p = Ok (came, p)

-- a pair that is given, part by part
same_left : (a b : Stepped) (p q : Process) → given a p ≡ given b q → a ≡ b
same_left a b p q e = let pair : (a, p) ≡ (b, q) = cc in ap (λ (z : Stepped × Process). z.0) pair

same_right : (a b : Stepped) (p q : Process) → given a p ≡ given b q → p ≡ q
same_right a b p q e = let pair : (a, p) ≡ (b, q) = cc in ap (λ (z : Stepped × Process). z.1) pair

module _ (code : Code) (limits journal : List ℕ) (process : ℕ) where
  abbrev m : Machine Process Parcel
  m = code_machine code limits

  abbrev At : Process → Type 0
  At p = StandsAt m limits (opening_run code) journal process p

  -- the process made no more steps than are allowed
  abbrev Low : Process → Type 0
  Low p = p.ran ≤ limit_of limit.Local limits

  -- where the process stood before its last step
  record Comes-from (came : w.Came Parcel) (q : Process) : Type 0 where
    before : Process
    stood : At before
    within : Low before
    from : ComesFrom m limits before came q

  -- where it stood before a step that is wrong
  record Stuck : Type 0 where
    before : Process
    stood : At before
    within : Low before
    fails : m.step before ≡ Fails

  low_below : (p : Process) → p.ran < limit_of limit.Local limits → Low p
  low_below p below = omega (arith, below)

  low_next : (p r : Process) → m.step p ≡ Goes r → p.ran < limit_of limit.Local limits → Low r
  low_next p r goes below = let more : r.ran ≡ p.ran + 1 = (code_is_counted code limits).goes p r goes in omega (arith, more, below)

  goes_at : (p q : Process) → At p → m.step p ≡ Goes q → At q
  goes_at p q at goes = record { turned = at.turned; turns = at.turns; led = led_goes m (code_is_counted code limits) at.turned.processes process p q at.led goes }

  step_by : (outcome : Outcome) (p q : Process) (came : Stepped) (rest : Process → Outcome) → free_step code limits p.pending p ≡ outcome → goes_on outcome rest ≡ Ok (came, q) → At p → p.ran < limit_of limit.Local limits → ((r : Process) → At r → Low r → rest r ≡ Ok (came, q) → Comes-from (came_by came) q) → Comes-from (came_by came) q
  step_by (Err why) p q came rest is e at below further = absurd (cc)
  step_by (Ok (Went, r)) p q came rest is e at below further = further r (goes_at p r at (ap move_of is)) (low_next p r (ap move_of is) below) e
  step_by (Ok (Wants wish, r)) p q came rest is e at below further =
      let same : r ≡ q = same_right (Wants wish) came r q e in
      let kind : Wants wish ≡ came = same_left (Wants wish) came r q e in
      subst (λ (x : Process). Comes-from (came_by came) x) same (subst (λ (k : Stepped). Comes-from (came_by k) r) kind (record { before = p; stood = at; within = low_below p below; from = ap move_of is }))
  step_by (Ok (Panics text, r)) p q came rest is e at below further =
      let same : r ≡ q = same_right (Panics text) came r q e in
      let kind : Panics text ≡ came = same_left (Panics text) came r q e in
      subst (λ (x : Process). Comes-from (came_by came) x) same (subst (λ (k : Stepped). Comes-from (came_by k) r) kind (record { before = p; stood = at; within = low_below p below; from = ap move_of is }))
  step_by (Ok (Spent steps, r)) p q came rest is e at below further =
      let same : r ≡ q = same_right (Spent steps) came r q e in
      let kind : Spent steps ≡ came = same_left (Spent steps) came r q e in
      subst (λ (x : Process). Comes-from (came_by came) x) same (subst (λ (k : Stepped). Comes-from (came_by k) r) kind (record { before = p; stood = at; within = low_below p below; from = absurd (step-leaves code limits p r (Spent steps) is).gives }))

  when_by : (spent : Bool) (p q : Process) (came : Stepped) (rest : Process → Outcome) → nat_le (limit_of limit.Local limits) p.ran ≡ spent → goes_on (when spent (Ok (Spent p.ran, p)) (free_step code limits p.pending p)) rest ≡ Ok (came, q) → At p → Low p → ((r : Process) → At r → Low r → rest r ≡ Ok (came, q) → Comes-from (came_by came) q) → Comes-from (came_by came) q
  unfolding when
  when_by true p q came rest over e at low further =
      let reached : limit_of limit.Local limits ≤ p.ran = leb-true (limit_of limit.Local limits) p.ran over in
      let all : p.ran ≡ limit_of limit.Local limits = omega (arith, reached, low) in
      let same : p ≡ q = same_right (Spent p.ran) came p q e in
      let kind : Spent p.ran ≡ came = same_left (Spent p.ran) came p q e in
      subst (λ (x : Process). Comes-from (came_by came) x) same (subst (λ (k : Stepped). Comes-from (came_by k) p) kind (record { before = p; stood = at; within = low; from = (refl, refl, all) }))
  when_by false p q came rest over e at low further =
      let below : p.ran < limit_of limit.Local limits = leb-false (limit_of limit.Local limits) p.ran over in
      step_by (free_step code limits p.pending p) p q came rest refl e at below further

  slice_leads : (most : ℕ) (p q : Process) (came : Stepped) → slice_of most code limits p ≡ Ok (came, q) → At p → Low p → Comes-from (came_by came) q
  unfolding slice_of code_step
  slice_leads zero p q came e at low =
      let same : p ≡ q = same_right Went came p q e in
      let kind : Went ≡ came = same_left Went came p q e in
      subst (λ (x : Process). Comes-from (came_by came) x) same (subst (λ (k : Stepped). Comes-from (came_by k) p) kind (record { before = p; stood = at; within = low; from = refl }))
  slice_leads (suc most) p q came e at low =
      when_by (nat_le (limit_of limit.Local limits) p.ran) p q came (λ r. slice_of most code limits r) refl e at low (λ r there still is. slice_leads most r q came is there still)

  -- the same where the instruction is wrong
  fails_by : (outcome : Outcome) (p : Process) (why : Wrong) (rest : Process → Outcome) → free_step code limits p.pending p ≡ outcome → goes_on outcome rest ≡ Err why → At p → p.ran < limit_of limit.Local limits → ((r : Process) → At r → Low r → rest r ≡ Err why → Stuck) → Stuck
  fails_by (Err other) p why rest is e at below further = record { before = p; stood = at; within = low_below p below; fails = ap move_of is }
  fails_by (Ok (Went, r)) p why rest is e at below further = further r (goes_at p r at (ap move_of is)) (low_next p r (ap move_of is) below) e
  fails_by (Ok (Wants wish, r)) p why rest is e at below further = absurd (cc)
  fails_by (Ok (Panics text, r)) p why rest is e at below further = absurd (cc)
  fails_by (Ok (Spent steps, r)) p why rest is e at below further = absurd (cc)

  fails_when : (spent : Bool) (p : Process) (why : Wrong) (rest : Process → Outcome) → nat_le (limit_of limit.Local limits) p.ran ≡ spent → goes_on (when spent (Ok (Spent p.ran, p)) (free_step code limits p.pending p)) rest ≡ Err why → At p → ((r : Process) → At r → Low r → rest r ≡ Err why → Stuck) → Stuck
  unfolding when
  fails_when true p why rest over e at further = absurd (cc)
  fails_when false p why rest over e at further =
      fails_by (free_step code limits p.pending p) p why rest refl e at (leb-false (limit_of limit.Local limits) p.ran over) further

  slice_fails : (most : ℕ) (p : Process) (why : Wrong) → slice_of most code limits p ≡ Err why → At p → Stuck
  unfolding slice_of code_step
  slice_fails zero p why e at = absurd (cc)
  slice_fails (suc most) p why e at =
      fails_when (nat_le (limit_of limit.Local limits) p.ran) p why (λ r. slice_of most code limits r) refl e at (λ r there still is. slice_fails most r why is there)

  came_on : (stepped : Stepped) (came : OneCame) (q : Process) → told_came came ≡ Some (came_by stepped) → Comes-from (came_by stepped) q → ComesOn code limits journal process came q
  came_on stepped came q is found = record {
    before = found.before;
    stood = found.stood;
    within = found.within;
    from = subst (λ (o : Option (w.Came Parcel)). ComesAs code limits found.before o q) (sym is) found.from;
  }

  -- what a slice answers, as what the process comes home with
  pub comes_by : (turns : ℕ) (p q : Process) (stepped : Result OneStepped StepFault) → At p → Low p → AnswersSlice turns code limits stepped p q → ComesOn code limits journal process (came_with stepped) q
  comes_by turns p q (Ok stepped.Went) at low sliced = came_on Went c.Went q refl (slice_leads turns p q Went sliced at low)
  comes_by turns p q (Ok (stepped.Wants wish)) at low sliced = came_on (Wants (action_of wish)) (c.Wants wish) q refl (slice_leads turns p q (Wants (action_of wish)) sliced at low)
  comes_by turns p q (Ok (stepped.Panics text)) at low sliced = came_on (Panics text) (c.Panics text) q refl (slice_leads turns p q (Panics text) sliced at low)
  comes_by turns p q (Ok (stepped.Spent steps)) at low sliced = came_on (Spent steps) (c.Spent steps) q refl (slice_leads turns p q (Spent steps) sliced at low)
  comes_by turns p q (Err (fault.Wrong why)) at low sliced =
      let stuck = slice_fails turns p why sliced at in
      record { before = stuck.before; stood = stuck.stood; within = stuck.within; from = stuck.fails }
  comes_by turns p q (Err fault.OutOfMemory) at low sliced = came_on Went c.Went q refl (slice_leads sliced.0 p q Went sliced.2 at low)
