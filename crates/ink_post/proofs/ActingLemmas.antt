-- What a wanted action comes to, by how it was found.
use Rattle.std.proofs.Common.{◌≡◌, ◌≤◌, ◌+◌, ℕ, Bool, true, false, Option, None, Some, Result, Ok, Err, List, [], length, refl, ap, sym, ◌∙◌, subst}
use Rattle.std.specs.Prelude.{nat_le}
use Rattle.ink_base.specs.declared.limits.Limit.TheVariants as limit
use Rattle.ink_base.specs.Actions.{Action, Panic, SharedState, as_made, is_enabled, panic_of, panic_or}
use Rattle.ink_base.specs.Limits.{limit_of}
use Rattle.ink_code.specs.declared.code.Code.{Code}
use Rattle.ink_code.specs.Process.{Process}
use Rattle.ink_code.specs.Runs.{process_after}
use Rattle.ink_code.specs.Trees.{Parcel}
use Rattle.ink_law_runs.specs.CodeMachine.{code_machine}
use Rattle.ink_law_turns.specs.Machines.{Machine}
use Rattle.ink_law_worlds.specs.Coming.{IsApartFor, IsFresh}
use Rattle.ink_post.specs.Answers.{ActsBy, ActsOn, Makes, MakesBy, panicked, with_line}
use Rattle.ink_post.specs.Asks.{BringsApart, CanMake, GoesOn}
use Rattle.ink_post.specs.Worlds.{CodeState, Same, world_of}
use Rattle.ink_post.specs.declared.answer.Answer.{Answer}
use Rattle.ink_post.specs.declared.answer.Answer.TheVariants as a
use Rattle.ink_post.specs.declared.answer.Came.{Came as OneCame}
use Rattle.ink_post.specs.declared.answer.CheckFault.{CheckFault}
use Rattle.ink_post.specs.declared.post.Post.{Post}
use Rattle.ink_post.proofs.HomesLemmas.{homes_length}
use Rattle.ink_post.proofs.MakingLemmas.{after_panic}
use Rattle.ink_worlds.specs.State.{Acts, acted, answer_of, back_in, halted, waits_at}
use Rattle.ink_worlds.specs.State as w
use Rattle.ink_worlds.specs.declared.halt.Halt.TheVariants.{Events}
use Rattle.ink_worlds.specs.declared.status.Status.TheVariants.{Stopped}

module _ (code : Code) (limits : List ℕ) (process : ℕ) (wish : Action Parcel) (p : Process) (old : CodeState) where
  abbrev m : Machine Process Parcel
  m = code_machine code limits

  abbrev full_in : CodeState → Bool
  full_in state = nat_le (limit_of limit.Events limits) (length state.journal)

  pub acts_waits : (new : CodeState) → is_enabled wish process old.shared ≡ false → new ≡ back_in process p (waits_at wish) old → Acts m limits process wish p old w.Waits new
  acts_waits new enabled is = subst (λ (b : Bool). w.ActsBy m limits process wish p old b (full_in old) w.Waits new) (sym enabled) (refl, is)

  pub acts_full : (new : CodeState) → is_enabled wish process old.shared ≡ true → full_in old ≡ true → new ≡ halted (Events process) (back_in process p Stopped old) → Acts m limits process wish p old w.Full new
  acts_full new enabled full is =
      subst (λ (b : Bool). w.ActsBy m limits process wish p old b (full_in old) w.Full new) (sym enabled)
      (subst (λ (b : Bool). w.ActsBy m limits process wish p old true b w.Full new) (sym full) (refl, is))

  pub acts_made : (made : Action Parcel) (q : Process) (answer : w.Answer) (new : CodeState) → is_enabled wish process old.shared ≡ true → full_in old ≡ false → as_made wish old.shared limits ≡ made → process_after code made process old.shared p ≡ Some q → answer ≡ answer_of made → new ≡ acted m made process q old → Acts m limits process wish p old answer new
  acts_made made q answer new enabled full is left answers after =
      subst (λ (b : Bool). w.ActsBy m limits process wish p old b (full_in old) answer new) (sym enabled)
      (subst (λ (b : Bool). w.ActsBy m limits process wish p old true b answer new) (sym full)
      (subst (λ (one : Action Parcel). w.Makes m one process (process_after code one process old.shared p) old answer new) (sym is)
      (subst (λ (o : Option Process). w.Makes m made process o old answer new) (sym left) (answers, after))))

  pub acts_panics : (text : List ℕ) (new : CodeState) → is_enabled wish process old.shared ≡ true → full_in old ≡ false → panic_of wish old.shared limits ≡ Some text → new ≡ panicked process p text old → Acts m limits process wish p old w.Panics new
  acts_panics text new enabled full panics after =
      acts_made (Panic text) (record p { ran = 0 }) w.Panics new enabled full (ap (λ (o : Option (List ℕ)). panic_or o wish) panics) (after_panic code process old.shared p text) refl after

  -- an action that was made as it is
  made_acts : (answer : w.Answer) (new : CodeState) → is_enabled wish process old.shared ≡ true → full_in old ≡ false → panic_of wish old.shared limits ≡ None → (q : Process) × (process_after code wish process old.shared p ≡ Some q) × (answer ≡ answer_of wish) × (new ≡ acted m wish process q old) → Acts m limits process wish p old answer new
  made_acts answer new enabled full whole makes =
      acts_made wish makes.0 answer new enabled full (ap (λ (o : Option (List ℕ)). panic_or o wish) whole) makes.1 makes.2 makes.3

  pub makes_acts : (answer : Answer) (new : CodeState) → is_enabled wish process old.shared ≡ true → full_in old ≡ false → panic_of wish old.shared limits ≡ None → MakesBy code limits wish process p old new answer → ActsBy code limits wish process p old new answer
  makes_acts a.Wrong new enabled full whole makes =
      ((enabled, subst (λ (one : Action Parcel). process_after code one process old.shared p ≡ None) (sym (ap (λ (o : Option (List ℕ)). panic_or o wish) whole)) makes.0), makes.1)
  makes_acts a.Kept new enabled full whole makes = made_acts w.Kept new enabled full whole makes
  makes_acts a.Moved new enabled full whole makes = made_acts w.Moved new enabled full whole makes
  makes_acts (a.Printed text) new enabled full whole makes = made_acts w.Moved new enabled full whole makes
  makes_acts a.Waits new enabled full whole makes = made_acts w.Waits new enabled full whole makes
  makes_acts a.Panicked new enabled full whole makes = made_acts w.Panics new enabled full whole makes
  makes_acts a.JournalFull new enabled full whole makes = made_acts w.Full new enabled full whole makes
  makes_acts (a.Spent steps) new enabled full whole makes = made_acts (w.Over steps) new enabled full whole makes

-- an action that was made as it is, in a world that differs from the first one by its room alone
pub makes_on : (code : Code) (wish : Action Parcel) (process : ℕ) (p : Process) (came : OneCame) (old middle new : Post) (result : Result Answer CheckFault) → Same old middle → middle.limits ≡ old.limits → ((output : List ℕ) → is_enabled wish process (world_of old output).shared ≡ true) → nat_le (limit_of limit.Events old.limits) (length old.journal.entries) ≡ false → ((output : List ℕ) → panic_of wish (world_of old output).shared old.limits ≡ None) → Makes code wish process p came middle new result → ActsOn code wish process p came old new result
makes_on code wish process p came old middle new (Ok answer) same limits enabled full whole makes =
    λ output. makes_acts code old.limits process wish p (world_of old output) answer (world_of new (with_line answer output)) (enabled output) full (whole output)
    (subst (λ (s : CodeState). MakesBy code old.limits wish process p s (world_of new (with_line answer output)) answer) (same output)
    (subst (λ (ns : List ℕ). MakesBy code ns wish process p (world_of middle output) (world_of new (with_line answer output)) answer) limits (makes output)))
makes_on code wish process p came old middle new (Err fault) same limits enabled full whole makes =
    ((λ output. makes.0 output ∙ same output), makes.1, makes.2)

-- and can be made there
pub can_make : (wish : Action Parcel) (process : ℕ) (p : Process) (old middle : Post) → Same old middle → middle.limits ≡ old.limits → 1 ≤ middle.journal.spare → GoesOn old → BringsApart wish process p old → ((output : List ℕ) → is_enabled wish process (world_of old output).shared ≡ true) → ((output : List ℕ) → panic_of wish (world_of old output).shared old.limits ≡ None) → CanMake wish process p middle
can_make wish process p old middle same limits room goes brings enabled whole =
    let shares : (output : List ℕ) → (world_of middle output).shared ≡ (world_of old output).shared = λ output. ap (λ (s : CodeState). s.shared) (same output) in
    let count : length middle.homes.items ≡ length old.homes.items = sym (homes_length middle.homes.items) ∙ ap (λ (s : CodeState). length s.homes) (same []) ∙ homes_length old.homes.items in
    record {
      goes = record { halt = ap (λ (s : CodeState). s.halt) (same []) ∙ goes.halt; text = ap (λ (s : CodeState). s.text) (same []) ∙ goes.text };
      brings = record {
        apart = λ output. subst (λ (s : SharedState Parcel). IsApartFor wish process s p.objects) (sym (shares output)) (brings.apart output);
        fresh = subst (λ (n : ℕ). IsFresh wish (n + 1)) (sym count) brings.fresh;
      };
      enabled = λ output. ap (λ (s : SharedState Parcel). is_enabled wish process s) (shares output) ∙ enabled output;
      whole = λ output. ap (λ (s : SharedState Parcel). panic_of wish s middle.limits) (shares output) ∙ (ap (λ (ns : List ℕ). panic_of wish (world_of old output).shared ns) limits ∙ whole output);
      room = room;
    }
