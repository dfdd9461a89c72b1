-- What a check-in leaves of the others.
use Rattle.std.proofs.Common.{◌≡◌, ◌≢◌, ℕ, Bool, true, false, Option, None, Some, List, [], ◌∷◌, ◌++◌, refl, sym, ap, ◌∙◌, subst, inl, inr, ◌⊎◌}
use Rattle.std.specs.Prelude.{nat_le, length}
use Rattle.ink_base.specs.declared.limits.Limit.TheVariants as limit
use Rattle.ink_base.specs.Actions.{Action, is_enabled, as_made}
use Rattle.ink_base.specs.Limits.{limit_of}
use Rattle.ink_base.specs.Numbered.{numbered, set_numbered}
use Rattle.ink_law_turns.specs.Ahead.{StandsAt}
use Rattle.ink_law_turns.specs.Machines.{Machine}
use Rattle.ink_law_turns.specs.Turns.{Run, Turns}
use Rattle.ink_law_turns.proofs.Determined.{stands_beyond}
use Rattle.ink_law_turns.proofs.Numbering.{numbered-set_other}
use Rattle.ink_worlds.specs.Standing.{StandsFor}
use Rattle.ink_worlds.specs.State.{State, Came, Went, GivesUp, Wants, Spent, Answer, ChecksIn, ChecksInBy, ComesBack, ActsBy, Makes, acted, status_after}
use Rattle.ink_worlds.specs.declared.halt.Halt.{Halt}
use Rattle.ink_worlds.specs.declared.status.Status.{Status}
use Rattle.ink_worlds.specs.declared.status.Status.TheVariants.{Ready, Out, Stopped}
use Rattle.ink_worlds.proofs.Stands.{woken_calm}
use Rattle.ink_worlds.proofs.Waking.{woken_each}

module _ {P V : Type 0} (m : Machine P V) (limits : List ℕ) where
  -- what is lent stays so, and there is an entry more or none
  pub record Leaves (process : ℕ) (old new : State P V) : Type 0 where
    pub out : (other seat ran : ℕ) → other ≢ process → numbered old.statuses other ≡ Some (Out seat ran) → numbered new.statuses other ≡ Some (Out seat ran)
    pub journal : (new.journal ≡ old.journal) ⊎ (new.journal ≡ old.journal ++ process ∷ [])

  put_leaves : (process : ℕ) (status : Status) (old new : State P V) → new.statuses ≡ set_numbered old.statuses process status → new.journal ≡ old.journal → Leaves process old new
  put_leaves process status old new statuses journal = record {
    out = λ other seat ran differ at. ap (λ (ss : List Status). numbered ss other) statuses ∙ (numbered-set_other old.statuses process other status differ ∙ at);
    journal = inl journal;
  }

  acted_leaves : (made : Action V) (process : ℕ) (left : P) (old new : State P V) → new ≡ acted m made process left old → Leaves process old new
  acted_leaves made process left old new e = record {
    out = λ other seat ran differ at.
        ap (λ (s : State P V). numbered s.statuses other) e
        ∙ (woken_each made (set_numbered old.statuses process (status_after made)) other (Out seat ran) (numbered-set_other old.statuses process other (status_after made) differ ∙ at)
        ∙ ap (λ (s : Status). Some s) (woken_calm m made other (Out seat ran) refl (λ f. refl)));
    journal = inr (ap (λ (s : State P V). s.journal) e);
  }

  back_leaves : (process : ℕ) (home : Option P) (status : Status) (halt : Option Halt) (old new : State P V) → new ≡ record old { homes = set_numbered old.homes process home; statuses = set_numbered old.statuses process status; halt = halt } → Leaves process old new
  back_leaves process home status halt old new e =
      put_leaves process status old new (ap (λ (s : State P V). s.statuses) e) (ap (λ (s : State P V). s.journal) e)

  makes_leaves : (made : Action V) (process : ℕ) (left : Option P) (old : State P V) (answer : Answer) (new : State P V) → Makes m made process left old answer new → Leaves process old new
  makes_leaves made process None old answer new h = back_leaves process None Stopped old.halt old new h.1
  makes_leaves made process (Some left) old answer new h = acted_leaves made process left old new h.1

  acts_leaves : (process : ℕ) (wish : Action V) (p : P) (old : State P V) (enabled full : Bool) (answer : Answer) (new : State P V) → ActsBy m limits process wish p old enabled full answer new → Leaves process old new
  acts_leaves process wish p old false full answer new h = back_leaves process (Some p) _ old.halt old new h.1
  acts_leaves process wish p old true true answer new h = back_leaves process (Some p) Stopped _ old new h.1
  acts_leaves process wish p old true false answer new h =
      makes_leaves (as_made wish old.shared limits) process (m.left (as_made wish old.shared limits) process old.shared p) old answer new h

  comes_leaves : (process : ℕ) (came : Came V) (p : P) (old : State P V) (answer : Answer) (new : State P V) → ComesBack m limits process came p old answer new → Leaves process old new
  comes_leaves process Went p old answer new h = back_leaves process (Some p) Ready old.halt old new h.1
  comes_leaves process GivesUp p old answer new h = back_leaves process (Some p) Stopped old.halt old new h.1
  comes_leaves process (Wants wish) p old answer new h =
      acts_leaves process wish p old (is_enabled wish process old.shared) (nat_le (limit_of limit.Events limits) (length old.journal)) answer new h
  comes_leaves process (Spent steps) p old answer new h = back_leaves process (Some p) Stopped _ old new h.1

  checks_by : (process : ℕ) (came : Came V) (p : P) (old : State P V) (halt : Option Halt) (answer : Answer) (new : State P V) → ChecksInBy m limits process came p old halt answer new → Leaves process old new
  checks_by process came p old None answer new h = comes_leaves process came p old answer new h
  checks_by process came p old (Some halt) answer new h = back_leaves process (Some p) Stopped old.halt old new h.1

  pub checks_leave : (process : ℕ) (came : Came V) (p : P) (old : State P V) (answer : Answer) (new : State P V) → ChecksIn m limits process came p old answer new → Leaves process old new
  checks_leave process came p old answer new h = checks_by process came p old old.halt answer new h

  module _ (first : Run P V) where
    pub still_stands : (process other : ℕ) (q : P) (old new : State P V) → StandsFor m limits first new → Leaves process old new → other ≢ process → StandsAt m limits first old.journal other q → StandsAt m limits first new.journal other q
    still_stands process other q old new stands leaves differ at =
        elim leaves.journal [
          | inl same ↦ subst (λ (js : List ℕ). StandsAt m limits first js other q) (sym same) at
          | inr more ↦ subst (λ (js : List ℕ). StandsAt m limits first js other q) (sym more)
              (stands_beyond m limits first old.journal (process ∷ []) other q stands.ahead.turned at (subst (λ (js : List ℕ). Turns m limits first js stands.ahead.turned) more stands.ahead.turns) (differ, tt))
        ]
