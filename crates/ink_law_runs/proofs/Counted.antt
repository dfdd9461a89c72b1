-- The machine that runs a code counts the steps of its processes.
use Rattle.std.proofs.Common.{◌≡◌, ℕ, ◌+◌, Bool, true, false, Result, Ok, Err, Option, Some, None, List, refl, ap, sym, ◌∙◌, subst, arith}
use Rattle.ink_base.specs.Actions.{Action, SharedState}
use Rattle.ink_base.specs.Actions as action
use Rattle.ink_code.specs.declared.code.Code.{Code}
use Rattle.ink_code.specs.Machine.{Outcome, Stepped, Went, Wants, Panics, Spent}
use Rattle.ink_code.specs.Process.{Process}
use Rattle.ink_code.specs.Step.{free_step}
use Rattle.ink_code.specs.Trees.{Parcel}
use Rattle.ink_law_ownership.specs.Leaves.{Gives, StepLeaves}
use Rattle.ink_law_ownership.proofs.Left.{left_by}
use Rattle.ink_law_ownership.proofs.Steps.{step-leaves}
use Rattle.ink_law_runs.specs.CodeMachine.{move_of, code_machine}
use Rattle.ink_law_turns.specs.Machines.{Move, Goes, Comes, IsLike, IsCounted, is_binding}

goes_by : (code : Code) (limits : List ℕ) (p q : Process) (outcome : Outcome) → free_step code limits p.pending p ≡ outcome → move_of outcome ≡ Goes q → q.ran ≡ p.ran + 1
goes_by code limits p q (Err why) is e = absurd (cc)
goes_by code limits p q (Ok (Went, r)) is e =
    let same : r ≡ q = cc in
    ap (λ (x : Process). x.ran) (sym same) ∙ (step-leaves code limits p r Went is).ran
goes_by code limits p q (Ok (Wants wish, r)) is e = absurd (cc)
goes_by code limits p q (Ok (Panics text, r)) is e = absurd (cc)
goes_by code limits p q (Ok (Spent steps, r)) is e = absurd (cc)

-- with an action that isn't binding nothing goes out
stays_by : (wish : Action Parcel) (p q : Process) → Gives (Wants wish) p q → is_binding wish ≡ false → q ≡ p
stays_by action.Take p q gives e = gives
stays_by action.NewFuture p q gives e = gives
stays_by (action.GetFuture future) p q gives e = gives
stays_by (action.Print text) p q gives e = absurd (cc)
stays_by (action.Spawn kind parcel) p q gives e = absurd (cc)
stays_by (action.Send to method parcel) p q gives e = absurd (cc)
stays_by (action.SetFuture future parcel) p q gives e = absurd (cc)
stays_by (action.BreakFuture future) p q gives e = absurd (cc)
stays_by (action.Panic text) p q gives e = absurd (cc)

-- the process that waits, beside the one that came to the action
record Waits (wish : Action Parcel) (p waiting : Process) : Type 0 where
  number : waiting.number ≡ p.number
  kind : waiting.kind ≡ p.kind
  ran : waiting.ran ≡ p.ran
  stays : is_binding wish ≡ false → waiting ≡ p

waits_by : (code : Code) (limits : List ℕ) (p waiting : Process) (wish : Action Parcel) (outcome : Outcome) → free_step code limits p.pending p ≡ outcome → move_of outcome ≡ Comes wish waiting → Waits wish p waiting
waits_by code limits p waiting wish (Err why) is e = absurd (cc)
waits_by code limits p waiting wish (Ok (Went, r)) is e = absurd (cc)
waits_by code limits p waiting wish (Ok (Wants want, r)) is e =
    let same : r ≡ waiting = cc in
    let alike : want ≡ wish = cc in
    let leaves = step-leaves code limits p r (Wants want) is in
    subst (λ (w : Process). Waits wish p w) same (subst (λ (a : Action Parcel). Waits a p r) alike (record {
      number = leaves.number;
      kind = leaves.kind;
      ran = let ran = leaves.ran in omega arith;
      stays = stays_by want p r leaves.gives;
    }))
waits_by code limits p waiting wish (Ok (Panics text, r)) is e =
    let same : r ≡ waiting = cc in
    let alike : ◌≡◌ {A = Action Parcel} (action.Panic text) wish = cc in
    let leaves = step-leaves code limits p r (Panics text) is in
    subst (λ (w : Process). Waits wish p w) same (subst (λ (a : Action Parcel). Waits a p r) alike (record {
      number = leaves.number;
      kind = leaves.kind;
      ran = let ran = leaves.ran in omega arith;
      stays = λ binding. absurd (cc);
    }))
waits_by code limits p waiting wish (Ok (Spent steps, r)) is e = absurd (cc)

pub code_is_counted : (code : Code) (limits : List ℕ) → IsCounted (code_machine code limits)
code_is_counted code limits = record {
  goes = λ p q e. goes_by code limits p q (free_step code limits p.pending p) refl e;
  leaves = λ made process shared p q e. (left_by code made process shared p q e).ran;
  begins = λ number kind given. refl;
  waits = λ p waiting wish e.
      let w = waits_by code limits p waiting wish (free_step code limits p.pending p) refl e in
      record { number = w.number; kind = w.kind; ran = w.ran };
  stays = λ p waiting wish e. (waits_by code limits p waiting wish (free_step code limits p.pending p) refl e).stays;
}
