-- What a process that comes home comes to, by what was done.
use Rattle.std.proofs.Common.{◌≡◌, ℕ, true, Option, None, Some, Result, Ok, Err, List, refl, sym, subst}
use Rattle.std.specs.Option.{is_some}
use Rattle.ink_base.specs.Actions.{Action}
use Rattle.ink_base.specs.Actions as action
use Rattle.ink_code.specs.declared.code.Code.{Code}
use Rattle.ink_code.specs.Process.{Process}
use Rattle.ink_code.specs.Trees.{Parcel}
use Rattle.ink_law_runs.specs.CodeMachine.{code_machine}
use Rattle.ink_post.specs.Answers.{ActsBy, ActsOn, ChecksBy, ChecksHome, WantsMemory, with_line}
use Rattle.ink_post.specs.Asks.{told_came}
use Rattle.ink_post.specs.Worlds.{CodeState, world_of}
use Rattle.ink_post.specs.declared.answer.Answer.{Answer}
use Rattle.ink_post.specs.declared.answer.Answer.TheVariants as a
use Rattle.ink_post.specs.declared.answer.Came.{Came as OneCame}
use Rattle.ink_post.specs.declared.answer.Came.TheVariants as c
use Rattle.ink_post.specs.declared.answer.CheckFault.{CheckFault}
use Rattle.ink_post.specs.declared.post.Post.{Post}
use Rattle.ink_steps.specs.Answers.{action_of}
use Rattle.ink_worlds.specs.State.{Came, ChecksIn, ChecksInBy, ComesBack, back_in, put_in}
use Rattle.ink_worlds.specs.State as w
use Rattle.ink_worlds.specs.declared.halt.Halt.{Halt}
use Rattle.ink_worlds.specs.declared.halt.Halt.TheVariants.{Local}
use Rattle.ink_worlds.specs.declared.status.Status.TheVariants.{Stopped}

module _ (code : Code) (limits : List ℕ) (process : ℕ) (p : Process) (old : CodeState) where
  -- while the run goes on
  pub calm_in : (came : Came Parcel) (answer : w.Answer) (new : CodeState) → old.halt ≡ None → ComesBack (code_machine code limits) limits process came p old answer new → ChecksIn (code_machine code limits) limits process came p old answer new
  calm_in came answer new calm back = subst (λ (h : Option Halt). ChecksInBy (code_machine code limits) limits process came p old h answer new) (sym calm) back

  -- after an end
  over_in : (came : Came Parcel) (o : Option Halt) (new : CodeState) → old.halt ≡ o → is_some o ≡ true → new ≡ back_in process p Stopped old → ChecksIn (code_machine code limits) limits process came p old w.Kept new
  over_in came None new over some is = absurd (cc)
  over_in came (Some halt) new over some is = subst (λ (h : Option Halt). ChecksInBy (code_machine code limits) limits process came p old h w.Kept new) (sym over) (refl, is)

  acts_checks : (wish : Action Parcel) (answer : Answer) (new : CodeState) → old.halt ≡ None → ActsBy code limits wish process p old new answer → ChecksBy code limits process (Some (w.Wants wish)) p old new answer
  acts_checks wish a.Wrong new calm acts = acts
  acts_checks wish a.Kept new calm acts = calm_in (w.Wants wish) w.Kept new calm acts
  acts_checks wish a.Moved new calm acts = calm_in (w.Wants wish) w.Moved new calm acts
  acts_checks wish (a.Printed text) new calm acts = calm_in (w.Wants wish) w.Moved new calm acts
  acts_checks wish a.Waits new calm acts = calm_in (w.Wants wish) w.Waits new calm acts
  acts_checks wish a.Panicked new calm acts = calm_in (w.Wants wish) w.Panics new calm acts
  acts_checks wish a.JournalFull new calm acts = calm_in (w.Wants wish) w.Full new calm acts
  acts_checks wish (a.Spent steps) new calm acts = calm_in (w.Wants wish) (w.Over steps) new calm acts

-- by what it came home with
pub home_by : (code : Code) (process : ℕ) (p : Process) (came : OneCame) (o : Option (Came Parcel)) (old new : Post) (answer : Answer) → told_came came ≡ o → ((output : List ℕ) → ChecksBy code old.limits process o p (world_of old output) (world_of new (with_line answer output)) answer) → ChecksHome code process came p old new (Ok answer)
home_by code process p came o old new answer is checks =
    λ output. subst (λ (x : Option (Came Parcel)). ChecksBy code old.limits process x p (world_of old output) (world_of new (with_line answer output)) answer) (sym is) (checks output)

-- a wanted action was done
pub acts_home : (code : Code) (process : ℕ) (p : Process) (came : OneCame) (wish : Action Parcel) (old new : Post) (result : Result Answer CheckFault) → told_came came ≡ Some (w.Wants wish) → old.halt ≡ None → ActsOn code wish process p came old new result → ChecksHome code process came p old new result
acts_home code process p came wish old new (Ok answer) is calm acts =
    λ output. subst (λ (o : Option (Came Parcel)). ChecksBy code old.limits process o p (world_of old output) (world_of new (with_line answer output)) answer) (sym is)
    (acts_checks code old.limits process p (world_of old output) wish answer (world_of new (with_line answer output)) calm (acts output))
acts_home code process p came wish old new (Err fault) is calm acts = (acts, subst (λ (o : Option (Came Parcel)). WantsMemory o) (sym is) tt)

-- after an end a process only comes home
pub over_home : (code : Code) (process : ℕ) (p : Process) (came : OneCame) (old new : Post) → (came ≡ c.Wrong → ⊥) → is_some old.halt ≡ true → ((output : List ℕ) → world_of new output ≡ back_in process p Stopped (world_of old output)) → ChecksHome code process came p old new (Ok a.Kept)
over_home code process p came old new right over after = by_came came right
  where
    over_by : (one : Came Parcel) (output : List ℕ) → ChecksIn (code_machine code old.limits) old.limits process one p (world_of old output) w.Kept (world_of new output)
    over_by one output = over_in code old.limits process p (world_of old output) one old.halt (world_of new output) refl over (after output)

    by_came : (one : OneCame) → (one ≡ c.Wrong → ⊥) → (output : List ℕ) → ChecksBy code old.limits process (told_came one) p (world_of old output) (world_of new output) a.Kept
    by_came c.Went right = over_by w.Went
    by_came c.GivesUp right = over_by w.GivesUp
    by_came (c.Wants wish) right = over_by (w.Wants (action_of wish))
    by_came (c.Panics text) right = over_by (w.Wants (action.Panic text))
    by_came (c.Spent steps) right = over_by (w.Spent steps)
    by_came c.Wrong right = absurd (right refl)

-- so many steps were made
pub spent_by : (code : Code) (limits : List ℕ) (process : ℕ) (p : Process) (old : CodeState) (came : OneCame) (steps : ℕ) (new : CodeState) → told_came came ≡ Some (w.Spent steps) → old.halt ≡ None → new ≡ w.halted (Local process steps) (back_in process p Stopped old) → ChecksBy code limits process (told_came came) p old new (a.Spent steps)
spent_by code limits process p old came steps new is calm after =
    subst (λ (x : Option (Came Parcel)). ChecksBy code limits process x p old new (a.Spent steps)) (sym is) (calm_in code limits process p old (w.Spent steps) (w.Over steps) new calm (refl, after))
