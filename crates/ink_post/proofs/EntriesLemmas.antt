-- What a check-in makes of the journal, and what ends the run.
use Rattle.std.proofs.Common.{◌≡◌, ℕ, Bool, true, false, Option, None, Some, List, [], ◌∷◌, ◌++◌, length, refl, ap, sym, ◌∙◌}
use Rattle.std.specs.Prelude.{nat_le}
use Rattle.ink_base.specs.declared.limits.Limit.TheVariants as limit
use Rattle.ink_base.specs.Actions.{Action, Take, Print, Spawn, Send, NewFuture, SetFuture, BreakFuture, GetFuture, Panic, as_made, is_enabled}
use Rattle.ink_base.specs.Limits.{limit_of}
use Rattle.ink_law_turns.specs.Machines.{Machine}
use Rattle.ink_post.specs.Entries.{entries_by, halt_after}
use Rattle.ink_worlds.specs.State.{State, Came, Went, GivesUp, Wants, Spent, Answer, Kept, Waits, Full, Over, Wrong, ActsBy, ChecksInBy, ComesBack, Makes, acted, answer_of, back_in, halt_by, halted, put_in, waits_at}
use Rattle.ink_worlds.specs.declared.halt.Halt.{Halt}
use Rattle.ink_worlds.specs.declared.halt.Halt.TheVariants.{Events, Local}
use Rattle.ink_worlds.specs.declared.status.Status.TheVariants.{Ready, Stopped}

-- after an end nothing more is made; before one the answer tells what is added, and what ended the run
abbrev pub Halts : {P V : Type 0} → ℕ → Option Halt → State P V → State P V → Answer → Type 0
Halts process (Some halt) old new answer = (new.halt ≡ Some halt) × (new.journal ≡ old.journal) × (answer ≡ Kept)
Halts process None old new answer = (new.halt ≡ halt_after answer process) × (new.journal ≡ entries_by answer process old.journal)

module _ {P V : Type 0} (m : Machine P V) (limits : List ℕ) (process : ℕ) (p : P) (old : State P V) where
  -- by what the new state is
  same_as : (answer : Answer) (new made : State P V) → new ≡ made → made.halt ≡ halt_after answer process → made.journal ≡ entries_by answer process old.journal → (new.halt ≡ halt_after answer process) × (new.journal ≡ entries_by answer process old.journal)
  same_as answer new made is halt journal = (ap (λ (s : State P V). s.halt) is ∙ halt, ap (λ (s : State P V). s.journal) is ∙ journal)

  answers_as : (answer one : Answer) (new : State P V) → answer ≡ one → (new.halt ≡ halt_after one process) × (new.journal ≡ entries_by one process old.journal) → (new.halt ≡ halt_after answer process) × (new.journal ≡ entries_by answer process old.journal)
  answers_as answer one new is found = (found.0 ∙ ap (λ (a : Answer). halt_after a process) (sym is), found.1 ∙ ap (λ (a : Answer). entries_by a process old.journal) (sym is))

  halt_as : (made : Action V) → halt_by made process ≡ halt_after (answer_of made) process
  halt_as (Panic text) = refl
  halt_as Take = refl
  halt_as (Print text) = refl
  halt_as (Spawn kind fields) = refl
  halt_as (Send to method values) = refl
  halt_as NewFuture = refl
  halt_as (SetFuture future value) = refl
  halt_as (BreakFuture future) = refl
  halt_as (GetFuture future) = refl

  entry_by : (made : Action V) → old.journal ++ process ∷ [] ≡ entries_by (answer_of made) process old.journal
  entry_by (Panic text) = refl
  entry_by Take = refl
  entry_by (Print text) = refl
  entry_by (Spawn kind fields) = refl
  entry_by (Send to method values) = refl
  entry_by NewFuture = refl
  entry_by (SetFuture future value) = refl
  entry_by (BreakFuture future) = refl
  entry_by (GetFuture future) = refl

  module _ (calm : old.halt ≡ None) where
    makes_halts : (made : Action V) (o : Option P) (answer : Answer) (new : State P V) → Makes m made process o old answer new → (new.halt ≡ halt_after answer process) × (new.journal ≡ entries_by answer process old.journal)
    makes_halts made None answer new makes = answers_as answer Wrong new makes.0 (same_as Wrong new (put_in process None Stopped old) makes.1 calm refl)
    makes_halts made (Some left) answer new makes = answers_as answer (answer_of made) new makes.0 (same_as (answer_of made) new (acted m made process left old) makes.1 (halt_as made) (entry_by made))

    acts_halts : (wish : Action V) (enabled full : Bool) (answer : Answer) (new : State P V) → ActsBy m limits process wish p old enabled full answer new → (new.halt ≡ halt_after answer process) × (new.journal ≡ entries_by answer process old.journal)
    acts_halts wish false full answer new acts = answers_as answer Waits new acts.0 (same_as Waits new (back_in process p (waits_at wish) old) acts.1 calm refl)
    acts_halts wish true true answer new acts = answers_as answer Full new acts.0 (same_as Full new (halted (Events process) (back_in process p Stopped old)) acts.1 refl refl)
    acts_halts wish true false answer new acts = makes_halts (as_made wish old.shared limits) (m.left (as_made wish old.shared limits) process old.shared p) answer new acts

    back_halts : (came : Came V) (answer : Answer) (new : State P V) → ComesBack m limits process came p old answer new → (new.halt ≡ halt_after answer process) × (new.journal ≡ entries_by answer process old.journal)
    back_halts Went answer new back = answers_as answer Kept new back.0 (same_as Kept new (back_in process p Ready old) back.1 calm refl)
    back_halts GivesUp answer new back = answers_as answer Kept new back.0 (same_as Kept new (back_in process p Stopped old) back.1 calm refl)
    back_halts (Wants wish) answer new back = acts_halts wish (is_enabled wish process old.shared) (nat_le (limit_of limit.Events limits) (length old.journal)) answer new back
    back_halts (Spent steps) answer new back = answers_as answer (Over steps) new back.0 (same_as (Over steps) new (halted (Local process steps) (back_in process p Stopped old)) back.1 refl refl)

  pub checks_halts : (came : Came V) (halt : Option Halt) (answer : Answer) (new : State P V) → old.halt ≡ halt → ChecksInBy m limits process came p old halt answer new → Halts process halt old new answer
  checks_halts came None answer new is checks = back_halts is came answer new checks
  checks_halts came (Some halt) answer new is checks = (ap (λ (s : State P V). s.halt) checks.1 ∙ is, ap (λ (s : State P V). s.journal) checks.1, checks.0)
